-- Conversions of times: what is done and what is refused, exactly; and what was converted is converted back to what it was.
-- Assumes nothing.
use Rattle.std.specs.Prelude.{Ok, Err}
use mathlib.Core.Bool.{Bool, true, false, false≢true}
use mathlib.Core.List.{List, [], ◌∷◌, ◌++◌}
use mathlib.Core.Logic.{◌↔◌}
use mathlib.Core.Path.{◌≡◌, refl, sym, ap, subst, ◌∙◌}
use Prim.Native.Nat.{ℕ, ◌/◌, ◌%◌, ◌≤◌, ◌<◌}
use lib.Dec.{leb}
use lib.ListN.{length, take, drop, replicate}
use lib.Seq.{take-append_seam}
use borrow.Author.Tests.{leb-true, leb-false, le-leb, lt-leb}
use Rattle.coding.specs.declared.JudgingCause.{JudgingCause}
use Rattle.coding.specs.declared.JudgingCause.TheVariants.{ValueShape, IllTyped}
use Rattle.octets.specs.Answer.{if, then, none_left}
use Rattle.octets.specs.Permutations.{AllOctets}
use Rattle.octets.proofs.Tests.{test}
use Rattle.dates.specs.declared.DateTime.{DateTime}
use Rattle.dates.specs.declared.TimeKind.{TimeKind}
use Rattle.dates.specs.declared.TimeKind.TheVariants.{Utc, Generalized}
use Rattle.dates.specs.Calendar.{leap, february, month_days, years, is_date, is_time_of_day, in_range}
use Rattle.dates.specs.Own.{time_octets, time_at}
use Rattle.dates.specs.Century.{is_version, first_year, in_window, in_year, to_utc, window_year, to_generalized}
use Rattle.dates.proofs.Centuries.{Around2000, windows, same_range, forth_and_back, shortens_one}
use Rattle.coding.specs.Outcome.{Unknown, value_cause, ValueRoom, Refusal, of_table, of_value, of_message, Told, done, refusal, Outcome, refuse, write_at_start}
use Rattle.coding.specs.Value.{leaf_octets}
use Rattle.coding.specs.Judging.{need, own_time, read_own, read_node}
use Rattle.coding.specs.Reckoning.{childless, is_whole, is_lone, given, time_node, Given}
use Rattle.coding.specs.Conversion.{other_kind, counterpart, converted, placed, whole_conversion, whole_to_generalized, whole_to_utc, Same, Counterparts, Converts, Refuses, no_version, no_node, no_time, no_room}
use Rattle.coding.proofs.Reckoning.{accepted, given_stands, stands_given, given_shape, Fault, none_wrong, shape, type, given_fault}

-- Some of them on octets: 29 February of a year, as a UTCTime and as a GeneralizedTime, into eleven octets and into nine.
abbrev utc : ℕ → List ℕ
utc y = 0x56 ∷ 0x41 ∷ 23 ∷ 0 ∷ y ∷ 2 ∷ 29 ∷ 6 ∷ 30 ∷ 59 ∷ []

abbrev generalized : ℕ → List ℕ
generalized y = 0x56 ∷ 0x41 ∷ 24 ∷ y / 256 ∷ y % 256 ∷ 2 ∷ 29 ∷ 6 ∷ 30 ∷ 59 ∷ []

abbrev eleven : List ℕ
eleven = replicate 11 0xAA

abbrev nine : List ℕ
nine = replicate 9 0xAA

abbrev wrote : List ℕ → Outcome
wrote w = record { answer = done 10; buffer = w ++ (0xAA ∷ []) }

-- forth and back by each version; 7 before 11 before 12 before 27
pub conversions_right :
    (whole_to_generalized 1 (utc 60) eleven ≡ wrote (generalized 2060))
    × (whole_to_generalized 2 (utc 60) eleven ≡ wrote (generalized 1960))
    × (whole_to_utc 1 (generalized 2060) eleven ≡ wrote (utc 60))
    × (whole_to_utc 2 (generalized 1960) eleven ≡ wrote (utc 60))
    × (whole_to_utc 2 (generalized 2060) eleven ≡ refuse (of_value (value_cause IllTyped 0)) eleven)
    × (whole_to_utc 1 (generalized 1968) nine ≡ refuse (of_value (value_cause IllTyped 0)) nine)
    × (whole_to_utc 1 (generalized 1900) nine ≡ refuse (of_value (value_cause ValueShape 0)) nine)
    × (whole_to_generalized 1 (utc 61) nine ≡ refuse (of_value (value_cause ValueShape 0)) nine)
    × (whole_to_generalized 1 (generalized 1900) eleven ≡ refuse (of_value (value_cause ValueShape 0)) eleven)
    × (whole_to_generalized 1 (generalized 2060) nine ≡ refuse (of_value (value_cause IllTyped 0)) nine)
    × (whole_to_generalized 1 (utc 60) nine ≡ refuse (of_message ValueRoom) nine)
    × (whole_to_utc 2 (generalized 1960) nine ≡ refuse (of_message ValueRoom) nine)
    × (whole_to_generalized 0 (utc 60) eleven ≡ refuse (of_table Unknown) eleven)
    × (whole_to_utc 3 [] nine ≡ refuse (of_table Unknown) nine)
unfolding if then none_left leap february month_days years is_date is_time_of_day in_range time_octets time_at is_version first_year in_window in_year to_utc window_year to_generalized
    need own_time leaf_octets read_own read_node childless is_whole is_lone given counterpart converted placed whole_conversion
conversions_right = (refl, refl, refl, refl, refl, refl, refl, refl, refl, refl, refl, refl, refl, refl)

-- a time that is given is one
one_time : {t u : DateTime} → ◌≡◌ {A = Given} (Ok t) (Ok u) → t ≡ u
one_time e = cc

-- What a time becomes by a window is the same time, of the other kind and in range; and there is no other.

module _ (f : ℕ) (w : Around2000 f) where
  pub becomes_same : (k : TimeKind) (t u : DateTime) → in_range k t ≡ true → (counterpart f k t ≡ Ok u) ↔ Same f k t u
  unfolding counterpart
  becomes_same Utc t u r = let s = shortens_one f w t u r in (λ e. s.1 (sym (one_time e)), λ h. ap Ok (sym (s.0 h)))
  becomes_same Generalized t u r = (
    λ e. test (in_window f t.year) (λ i. record { inside = i; digits = sym (one_time (rw i at e)) }) λ i. absurd (false≢true (ap accepted (rw i at e))),
    λ h. rw h.inside (ap Ok (sym h.digits)),
  )

  same_in_range : (k : TimeKind) (t u : DateTime) → in_range k t ≡ true → Same f k t u → in_range (other_kind k) u ≡ true
  same_in_range Utc t u r h = ap (in_range Generalized) ((shortens_one f w t u r).0 h) ∙ (forth_and_back f w t r).2
  same_in_range Generalized t u r h = ap (in_range Utc) h.digits ∙ same_range f w t h.inside ∙ r

outside : (f : ℕ) (k : TimeKind) (t : DateTime) (c : JudgingCause) → counterpart f k t ≡ Err c → c ≡ IllTyped
unfolding counterpart
outside f Utc t c e = absurd (false≢true (sym (ap accepted e)))
outside f Generalized t c e =
    test (in_window f t.year) (λ i. absurd (false≢true (sym (ap accepted (rw i at e))))) λ i.
    let q : ◌≡◌ {A = Given} (Err IllTyped) (Err c) = rw i at e in cc

turned : (f : ℕ) (k : TimeKind) (t u : DateTime) → Same f k t u → Same f (other_kind k) u t
turned f Utc t u h = h
turned f Generalized t u h = h

twice : (k : TimeKind) → other_kind (other_kind k) ≡ k
twice Utc = refl
twice Generalized = refl

one_length : {m n : ℕ} → ◌≡◌ {A = Told} (done m) (done n) → m ≡ n
one_length e = cc

one_refusal : {q r : Refusal} → ◌≡◌ {A = Told} (refusal q) (refusal r) → q ≡ r
one_refusal e = cc

abbrev finished : Outcome → Bool
finished x = told_done x.answer
  where
    told_done : Told → Bool
    told_done (done n) = true
    told_done (refusal r) = false

module _ (k : TimeKind) (v : ℕ) (s buf : List ℕ) where
  abbrev first : ℕ
  first = first_year v

  -- a counterpart is what the octets are converted to
  converted_to : {t u : DateTime} → Counterparts k v s t u → converted first k (given k s) ≡ Ok u
  unfolding converted
  converted_to {t} {u} h = rw (stands_given k s t h.stands) ((becomes_same first (windows v) k t u h.stands.ranged).1 h.same)

  -- and if they are converted to none, they have none
  data Converted : Given → Type 0 where
    one : {t u : DateTime} → Counterparts k v s t u → Converted (Ok u)
    not_alone : is_lone s ≡ false → Converted (Err ValueShape)
    none : is_lone s ≡ true → ((t u : DateTime) → Counterparts k v s t u → ⊥) → Converted (Err IllTyped)

  converted_one : AllOctets s → Converted (converted first k (given k s))
  unfolding converted
  converted_one o = judged (given k s) refl (given_fault k s)
    where
      became : is_lone s ≡ true → {t : DateTime} → given k s ≡ Ok t → (g : Given) → counterpart first k t ≡ g → Converted g
      became l {t} e (Ok u) q =
          let h = given_stands k s o t e in
          one (record { stands = h; same = (becomes_same first (windows v) k t u h.ranged).0 q })
      became l {t} e (Err c) q = rw (outside first k t c q) (none l λ a b h. false≢true (ap accepted (sym q ∙ rw e at (converted_to h))))

      judged : (g : Given) → given k s ≡ g → Fault s g → Converted (converted first k g)
      judged (Ok t) e (none_wrong l) = became l e (counterpart first k t) refl
      judged (Err c) e (shape l) = not_alone l
      judged (Err c) e (type l) = none l λ a b h. false≢true (ap accepted (rw e at (converted_to h)))

  -- what the rules say is done or refused is so
  converted_done : (x : Outcome) → Converts k v s buf x → whole_conversion k v s buf ≡ x
  unfolding whole_conversion placed
  converted_done x c = rw (c.version, converted_to c.counterparts, le-leb 10 (length buf) c.room) (sym c.is)

  refused_so : AllOctets s → (r : Refusal) → Refuses k v s buf r → whole_conversion k v s buf ≡ refuse r buf
  unfolding whole_conversion converted placed
  refused_so o r (no_version i) = rw i refl
  refused_so o r (no_node i l) = rw (i, ← given_shape k s l) refl
  refused_so o r (no_time i l h) = rw i (barred (converted_one o))
    where
      barred : {g : Given} → Converted g → placed (other_kind k) buf g ≡ refuse (of_value (value_cause IllTyped 0)) buf
      barred (one c) = absurd (h _ _ c)
      barred (not_alone m) = absurd (false≢true (sym m ∙ l))
      barred (none m n) = refl
  refused_so o r (no_room i c b) = rw (i, converted_to c, lt-leb 10 (length buf) b) refl

  -- and every conversion goes by one of them
  data Way : Outcome → Type 0 where
    a_done : {x : Outcome} → Converts k v s buf x → finished x ≡ true → Way x
    a_refusal : {r : Refusal} → Refuses k v s buf r → Way (refuse r buf)

  put : is_version v ≡ true → {g : Given} → Converted g → Way (placed (other_kind k) buf g)
  unfolding placed
  put i (not_alone l) = a_refusal (no_node i l)
  put i (none l h) = a_refusal (no_time i l h)
  put i (one {t} {u} c) =
      test (leb 10 (length buf))
      (λ l. rw l (a_done (record {
        version = i;
        from = t;
        to = u;
        counterparts = c;
        room = leb-true 10 (length buf) l;
        is = refl;
      }) refl))
      λ l. rw l (a_refusal (no_room i c (leb-false 10 (length buf) l)))

  way : AllOctets s → Way (whole_conversion k v s buf)
  unfolding whole_conversion
  way o = test (is_version v) (λ i. rw i (put i (converted_one o))) λ i. rw i (a_refusal (no_version i))

  -- Done exactly by the rules, with a node of the other kind at the start of the buffer, and the rest as it was.
  pub converts_exactly : AllOctets s → (n : ℕ) (after : List ℕ)
      → (whole_conversion k v s buf ≡ record { answer = done n; buffer = after }) ↔ Converts k v s buf (record { answer = done n; buffer = after })
  converts_exactly o n after = (λ e. there (way o) e, converted_done _)
    where
      there : {x : Outcome} → Way x → x ≡ record { answer = done n; buffer = after } → Converts k v s buf (record { answer = done n; buffer = after })
      there (a_done c f) e = subst (Converts k v s buf) e c
      there (a_refusal r) e = absurd (false≢true (ap finished e))

  -- Refused exactly by them, and then the buffer is as it was.
  pub refuses_exactly : AllOctets s → (r : Refusal) (after : List ℕ)
      → (whole_conversion k v s buf ≡ record { answer = refusal r; buffer = after }) ↔ (Refuses k v s buf r × (after ≡ buf))
  refuses_exactly o r after = (λ e. there (way o) e, λ (h, q). rw q (refused_so o r h))
    where
      there : {x : Outcome} → Way x → x ≡ record { answer = refusal r; buffer = after } → Refuses k v s buf r × (after ≡ buf)
      there (a_done c f) e = absurd (false≢true (sym (ap finished e) ∙ f))
      there (a_refusal h) e = (subst (Refuses k v s buf) (one_refusal (ap (λ (x : Outcome). x.answer) e)) h, sym (ap (λ (x : Outcome). x.buffer) e))

taken_back : (w buf : List ℕ) {n : ℕ} {after : List ℕ} → record { answer = done n; buffer = after } ≡ write_at_start w buf → take n after ≡ w
taken_back w buf e =
    rw (one_length (ap (λ (x : Outcome). x.answer) e), ap (λ (x : Outcome). x.buffer) e) (take-append_seam w (drop (length w) buf))

-- What is written is the node of a time in range.
pub counterpart_in_range : (k : TimeKind) (v : ℕ) (s : List ℕ) (t u : DateTime) → Counterparts k v s t u → in_range (other_kind k) u ≡ true
counterpart_in_range k v s t u c = same_in_range (first_year v) (windows v) k t u c.stands.ranged c.same

-- What a conversion wrote, handed in again under the same version, is converted to what it was: forth and back, back and forth.
pub there_and_back : (k : TimeKind) (v : ℕ) (s buf : List ℕ) → AllOctets s → (n : ℕ) (after : List ℕ)
    → whole_conversion k v s buf ≡ record { answer = done n; buffer = after }
    → (b : List ℕ) → 10 ≤ length b → whole_conversion (other_kind k) v (take n after) b ≡ write_at_start s b
there_and_back k v s buf o n after e b h =
    let c = (converts_exactly k v s buf o n after).0 e in
    let p = c.counterparts in
    let node = time_node (other_kind k) c.to in
    let wrote : take n after ≡ node = taken_back node buf c.is in
    converted_done (other_kind k) v (take n after) b (write_at_start s b) (record {
      version = c.version;
      from = c.to;
      to = c.from;
      counterparts = record {
        stands = record { octets = wrote; ranged = counterpart_in_range k v s c.from c.to p };
        same = turned (first_year v) k c.from c.to p.same;
      };
      room = h;
      is = ap (λ (w : List ℕ). write_at_start w b) (p.stands.octets ∙ ap (λ (j : TimeKind). time_node j c.from) (sym (twice k)));
    })

-- the steps by which the code answers
module _ (k : TimeKind) (v : ℕ) (s buf : List ℕ) {y : Bool} (i : y ≡ is_version v) where
  pub version_refused : y ≡ false → whole_conversion k v s buf ≡ refuse (of_table Unknown) buf
  unfolding whole_conversion
  version_refused h = rw (← i, h) refl

  module _ (h : y ≡ true) {g : Given} (e : g ≡ given k s) where
    pub node_refused : {c : JudgingCause} → g ≡ Err c → whole_conversion k v s buf ≡ refuse (of_value (value_cause c 0)) buf
    unfolding whole_conversion converted placed
    node_refused q = rw (← i, h, ← e, q) refl

    module _ {t : DateTime} (q : g ≡ Ok t) {d : Given} (j : d ≡ counterpart (first_year v) k t) where
      pub time_refused : {c : JudgingCause} → d ≡ Err c → whole_conversion k v s buf ≡ refuse (of_value (value_cause c 0)) buf
      unfolding whole_conversion converted placed
      time_refused r = rw (← i, h, ← e, q, ← j, r) refl

      pub counterpart_put : {u : DateTime} → d ≡ Ok u → whole_conversion k v s buf ≡ placed (other_kind k) buf (Ok u)
      unfolding whole_conversion converted
      counterpart_put r = rw (← i, h, ← e, q, ← j, r) refl

pub put_refused : (k : TimeKind) (t : DateTime) (buf : List ℕ) → length buf < 10 → placed k buf (Ok t) ≡ refuse (of_message ValueRoom) buf
unfolding placed
put_refused k t buf h = rw (lt-leb 10 (length buf) h) refl

pub put_done : (k : TimeKind) (t : DateTime) (buf : List ℕ) → 10 ≤ length buf → placed k buf (Ok t) ≡ write_at_start (time_node k t) buf
unfolding placed
put_done k t buf h = rw (le-leb 10 (length buf) h) refl

-- an answer and a buffer that are those of an outcome
pub outcome_is : {x y : Outcome} → x ≡ y → {a : Told} {b : List ℕ} → a ≡ y.answer → b ≡ y.buffer → (a ≡ x.answer) × (b ≡ x.buffer)
outcome_is e p q = rw e (p, q)
