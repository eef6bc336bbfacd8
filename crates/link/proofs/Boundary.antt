-- What call control in C is told: the packed answer of an exported function, taken apart, is the outcome of which the demands speak
-- (`coding/proofs/Demands`), or that of a conversion (`coding/proofs/Conversion`). r is what the function returns, `after` what the lent buffer then holds; the premises are the functions' contracts.
-- Assumes nothing.
use mathlib.Core.List.{List}
use mathlib.Core.Logic.{◌↔◌}
use mathlib.Core.Path.{◌≡◌, sym, ap, subst}
use Prim.Native.Nat.{ℕ, ◌≤◌, ◌<◌}
use lib.ListN.{length}
use Rattle.octets.specs.Numbers.{Octets}
use Rattle.dates.specs.declared.TimeKind.{TimeKind}
use Rattle.table.specs.Verdict.{verdict}
use Rattle.table.specs.Syntax.{Record, table}
use Rattle.coding.specs.Value.{Value, octets, depth}
use Rattle.coding.specs.Encodes.{Encodes}
use Rattle.coding.specs.Typed.{WellTyped}
use Rattle.coding.specs.Shaped.{Shaped}
use Rattle.coding.specs.Demands.{Accepted, Received, Sent}
use Rattle.coding.specs.Outcome.{levels, longest_value, longest_message, Told, Outcome}
use Rattle.coding.specs.Calls.{check_answer, whole_read, whole_write}
use Rattle.coding.specs.Conversion.{whole_conversion}
use Rattle.coding.proofs.Demands.{what_was_sent_arrives, what_is_sent_is_permitted}
use Rattle.link.specs.Pack.{low_part, packed, Tells}
use Rattle.link.proofs.Back.{packed_tells, tells_one}
use Rattle.link.proofs.Small.{check_within, read_small, write_small, conversion_small}

tells_exactly : {r : ℕ} {x : Told} → r ≡ packed x → low_part x < 65536 → (a : Told) → Tells r a ↔ (a ≡ x)
tells_exactly {r} {x} e h a =
    let y : Tells r x = rw e (packed_tells x h) in
    (λ z. tells_one z y, λ q. rw q y)

outcome_tells : {r : ℕ} {x : Outcome} {after : List ℕ} → r ≡ packed x.answer → after ≡ x.buffer → low_part x.answer < 65536
    → (a : Told) → Tells r a ↔ (record { answer = a; buffer = after } ≡ x)
outcome_tells {r} {x} {after} e f h a =
    let y = tells_exactly {r = r} {x = x.answer} e h a in
    (λ z. let q = y.0 z in rw (q, f), λ q. y.1 (ap (λ (o : Outcome). o.answer) q))

-- the answer that the returned number tells is the outcome's, and it tells one

pub link_checks : (b : List ℕ) (r : ℕ) → r ≡ packed (check_answer (verdict b)) → (a : Told) → Tells r a ↔ (a ≡ check_answer (verdict b))
link_checks b r e = tells_exactly e (check_within b)

module _ (b : List ℕ) (t : ℕ) (m buf : List ℕ) (o : Octets m) (r : ℕ) (after : List ℕ) where
  pub link_reads : (r ≡ packed (whole_read b t m buf).answer) × (after ≡ (whole_read b t m buf).buffer)
      → (a : Told) → Tells r a ↔ (record { answer = a; buffer = after } ≡ whole_read b t m buf)
  link_reads (e, f) = outcome_tells e f (read_small b t m buf o)

  pub link_writes : (r ≡ packed (whole_write b t m buf).answer) × (after ≡ (whole_write b t m buf).buffer)
      → (a : Told) → Tells r a ↔ (record { answer = a; buffer = after } ≡ whole_write b t m buf)
  link_writes (e, f) = outcome_tells e f (write_small b t m buf o)

module _ (k : TimeKind) (v : ℕ) (s buf : List ℕ) (o : Octets s) (r : ℕ) (after : List ℕ) where
  pub link_converts : (r ≡ packed (whole_conversion k v s buf).answer) × (after ≡ (whole_conversion k v s buf).buffer)
      → (a : Told) → Tells r a ↔ (record { answer = a; buffer = after } ≡ whole_conversion k v s buf)
  link_converts (e, f) = outcome_tells e f (conversion_small k v s buf o)

-- Demand 3 in C, for a table that is not refused and a type in it; the other theorems of the page carry over in the same way.
module _ (b : List ℕ) (o : Octets b) (rs : List Record) (ok : Accepted b rs) (t : ℕ) (lt : t < length rs) (v : Value) (buf : List ℕ)
    (r : ℕ) (after : List ℕ) (a : Told) (tells : Tells r a) where
  pub receives : (m : List ℕ) → depth v ≤ levels → length (octets v) ≤ longest_value → Octets m → Encodes (table rs) t v m → length m ≤ longest_message
      → length (octets v) ≤ length buf → (r ≡ packed (whole_read b t m buf).answer) × (after ≡ (whole_read b t m buf).buffer)
      → Received (table rs) t v m buf (record { answer = a; buffer = after })
  receives m d l p e h k c =
      subst (λ (x : Outcome). Received (table rs) t v m buf x) (sym ((link_reads b t m buf p r after c a).0 tells))
      (what_was_sent_arrives b o rs ok t lt v m buf d l p e h k)

  pub sends : WellTyped (table rs) t v → depth v ≤ levels → Shaped v → length (octets v) ≤ longest_value → Octets (octets v)
      → (r ≡ packed (whole_write b t (octets v) buf).answer) × (after ≡ (whole_write b t (octets v) buf).buffer)
      → Sent (table rs) t v buf (record { answer = a; buffer = after })
  sends w d s h p c =
      subst (λ (x : Outcome). Sent (table rs) t v buf x) (sym ((link_writes b t (octets v) buf p r after c a).0 tells))
      (what_is_sent_is_permitted b o rs ok t lt v buf w d s h)
