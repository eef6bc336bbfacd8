-- What the judge says of all that stands in a node, and what it notes: the loop over a row, one law for each way through it.
-- Assumes nothing.
use mathlib.Core.Bool.{Bool, true, false}
use mathlib.Core.List.{List, [], ◌∷◌}
use mathlib.Core.Path.{◌≡◌, refl, sym, ap, ◌∙◌}
use Prim.Native.Nat.{ℕ, ◌+◌, ◌-◌, ◌≤◌, ◌<◌}
use native.Mathlib.Omega.{arith}
use borrow.Author.Tests.{not-true, not-false, ltb-true, ltb-false}
use lib.Dec.{ltb}
use lib.ListN.{length, get_or, drop}
use Rattle.std.specs.Prelude.{Option, Some, None, Ok}
use Rattle.octets.specs.Numbers.{if_below}
use Rattle.octets.proofs.Tests.{test}
use Rattle.kinds.specs.Kinds.{octet_of}
use Rattle.checker.proofs.Ready.{Ready, ready_by}
use Rattle.coding.specs.declared.JudgingCause.{JudgingCause}
use Rattle.coding.specs.declared.JudgingCause.TheVariants.{ValueShape}
use Rattle.table.specs.Syntax.{Record, Table}
use Rattle.table.specs.Octets.{kind}
use Rattle.table.specs.Fields.{constructed_of}
use Rattle.table.specs.Reading.{table_in, count_in}
use Rattle.records.specs.Descriptors.{described}
use Rattle.records.specs.declared.descriptor.Descriptor.{Descriptor}
use Rattle.records.proofs.Promises.{entered_kind}
use Rattle.coding.specs.Value.{Value}
use Rattle.coding.specs.Judging.{judge_value}
use Rattle.writer.specs.Nodes.{Marked}
use Rattle.writer.specs.Frames.{cap, framed}
use Rattle.writer.specs.Known.{record_in, Known}
use Rattle.writer.specs.Standing.{start_at, count_at, below_at, row_from, row_in, Standing}
use Rattle.writer.specs.Rows.{judge_row, row_form, contents_form}
use Rattle.writer.specs.declared.judge.Judged.{Judged}
use Rattle.writer.specs.Told.{Ruling, fit, unfit, told}
use Rattle.writer.specs.Notes.{Noted, NotedRow, Noting}
use Rattle.writer.proofs.Frames.{cap_below}
use Rattle.checker.specs.declared.passed.Passed.{Passed}
use Rattle.writer.proofs.Known.{known, known_record, ready_tagged}
use Rattle.writer.proofs.Simple.{known_simple}
use Rattle.writer.proofs.Standing.{row_there, row_missing, row_over, row_all}
use Rattle.writer.proofs.Judging.{told_small, value_came, JudgedRow, Left, row_begin, row_end, row_turn, row_refused}
use Rattle.writer.proofs.Below.{value_shape}
use Rattle.writer.proofs.Notes.{Going, going_begin, going_turn, going_refused, going_stopped, going_end, row_noted, none_noted, leaf_noting}

-- Of what stands before the entry e, from the i-th on, nothing is judged yet: it begins at `at`, `total` octets are written of what came before, and
-- l has the notes of that.
pub record GoingOn (b v : List ℕ) (e : Descriptor) (p n : ℕ) (first : List ℕ) (i at total : ℕ) (l : List ℕ) : Type 0 where
  pub within : at ≤ length v
  pub small : total < 8194
  pub left : Left (table_in b) n (JudgedRow (table_in b) n v (row_in b e v p) (start_at e v p)) v (row_from b e v p i (count_at e v p - i)) at total
  pub going : Going (start_at e v p) first at l
      (λ m. NotedRow (table_in b) v m n (row_from b e v p i (count_at e v p - i)) at) (λ m. NotedRow (table_in b) v m n (row_in b e v p) (start_at e v p))

-- what is to be shown of an answer
abbrev pub RowSaid : List ℕ → List ℕ → Descriptor → ℕ → ℕ → List ℕ → Ruling → List ℕ → Type 0
RowSaid b v e p n first r last =
    (r ≡ told (row_form (table_in b) n (row_in b e v p)) v (judge_row (table_in b) n (row_in b e v p) (drop (start_at e v p) v)))
    × Noting (start_at e v p) first last r (λ m. NotedRow (table_in b) v m n (row_in b e v p) (start_at e v p))

module _ (b v : List ℕ) (e : Descriptor) (p n : ℕ) (first : List ℕ) where
  pub members_begin : start_at e v p ≤ length v → (at : ℕ) → at ≡ start_at e v p → GoingOn b v e p n first 0 at 0 first
  members_begin h at ea =
      rw ea (record {
        within = h;
        small = omega arith;
        left = rw (← row_all b e v p (count_at e v p)) (row_begin (table_in b) n v (row_in b e v p) (start_at e v p));
        going = rw (← row_all b e v p (count_at e v p)) (going_begin (start_at e v p) first (λ m. NotedRow (table_in b) v m n (row_in b e v p) (start_at e v p)));
      })

  pub row_small : {y : Ruling} {last : List ℕ} → RowSaid b v e p n first y last → (d : Judged) → y ≡ Ok d → d.size < 8194
  row_small {y} S d z = told_small _ v _ y d.end d.size S.0 z

  module _ (i at total : ℕ) (l : List ℕ) (G : GoingOn b v e p n first i at total l) where
    pub members_end_lem : count_at e v p ≤ i → RowSaid b v e p n first (fit at total) l
    members_end_lem h =
        let q = row_over b e v p i (count_at e v p) h in (
          row_end (table_in b) n _ v at total (rw q at G.left) G.within G.small,
          going_end G.going total (λ m. rw q (none_noted (table_in b) v n at m)),
        )

    pub members_pass : i < count_at e v p → 256 ≤ below_at b e v p i → GoingOn b v e p n first (i + 1) at total l
    members_pass h g =
        let q = row_missing b e v p i (count_at e v p) h g in
        record { within = G.within; small = G.small; left = rw q at G.left; going = rw q at G.going }

-- a number that is told only below a bound
pub some_below : (n k t : ℕ) → ◌≡◌ {A = Option ℕ} (Some t) (if_below n k) → (t ≡ k) × (t < n)
some_below n k t e =
    test (ltb k n) (λ l. let q : t ≡ k = let z : ◌≡◌ {A = Option ℕ} (Some t) (Some k) = rw l at e in cc in let h = ltb-true k n l in (q, omega arith)) λ l.
    let z : ◌≡◌ {A = Option ℕ} (Some t) None = rw l at e in absurd (let o : ◌≡◌ {A = ℕ} 0 1 = cc in omega arith)

pub none_below : (n k : ℕ) → ◌≡◌ {A = Option ℕ} None (if_below n k) → n ≤ k
none_below n k e =
    test (ltb k n) (λ l. let z : ◌≡◌ {A = Option ℕ} None (Some k) = rw l at e in absurd (let o : ◌≡◌ {A = ℕ} 0 1 = cc in omega arith)) λ l.
    ltb-false k n l

-- the i-th is there, of type t
pub record Member (b index v : List ℕ) (e : Descriptor) (p n : ℕ) (first : List ℕ) : Type 0 where
  pub ready : Ready b index
  pub stands : Standing b v e p
  pub i : ℕ
  pub at : ℕ
  pub total : ℕ
  pub notes : List ℕ
  pub so_far : GoingOn b v e p n first i at total notes
  pub one : i < count_at e v p
  pub t : ℕ
  pub is : t ≡ below_at b e v p i
  pub there : t < 256

-- as the code finds it: y is the entry, c counts what stands before it
abbrev pub member : (x : Passed) {v : List ℕ} {e y : Descriptor} {p n i at total c : ℕ} {first notes : List ℕ} → Standing x.octets.now v e p
    → GoingOn x.octets.now v e p n first i at total notes → y ≡ e → c ≡ count_at y v p → i < c
    → (t : ℕ) → ◌≡◌ {A = Option ℕ} (Some t) (if_below 256 (below_at x.octets.now y v p i))
    → Member x.octets.now x.index.now v e p n first
member x {v} {e} {y} {p} {n} {i} {at} {total} {c} {first} {notes} S G ey ec h t et =
    record {
      ready = ready_by x;
      stands = S;
      i = i;
      at = at;
      total = total;
      notes = notes;
      so_far = G;
      one = rw ey at (rw ec at h);
      t = t;
      is = (some_below 256 (below_at x.octets.now e v p i) t (rw ey at et)).0;
      there = (some_below 256 (below_at x.octets.now e v p i) t (rw ey at et)).1;
    }

module _ {b index v : List ℕ} {e : Descriptor} {p n : ℕ} {first : List ℕ} (m : Member b index v e p n first) where
  abbrev T : Table
  T = table_in b

  abbrev Rest : List ℕ
  Rest = row_from b e v p (m.i + 1) (count_at e v p - (m.i + 1))

  row_is : row_from b e v p m.i (count_at e v p - m.i) ≡ m.t ∷ Rest
  row_is = row_there b e v p m.i (count_at e v p) m.one (rw (← m.is) m.there) ∙ ap (λ (k : ℕ). k ∷ Rest) (sym m.is)

  left_now : Left T n (JudgedRow T n v (row_in b e v p) (start_at e v p)) v (m.t ∷ Rest) m.at m.total
  left_now = rw row_is at m.so_far.left

  going_now : Going (start_at e v p) first m.at m.notes (λ l. NotedRow T v l n (m.t ∷ Rest) m.at) (λ l. NotedRow T v l n (row_in b e v p) (start_at e v
      p))
  going_now = rw row_is at m.so_far.going

  pub member_there : m.t < count_in b
  member_there = rw m.is (m.stands.types m.i m.one (rw (← m.is) m.there))

  -- it is refused where it begins
  member_stopped : (f : Value → List ℕ) (c : JudgingCause) → unfit c m.at ≡ told f v (judge_value T n m.t (drop m.at v))
      → RowSaid b v e p n first (unfit c m.at) m.notes
  member_stopped f c x =
      (row_refused T n _ v m.at m.total m.t Rest left_now f (unfit c m.at) c m.at x refl, going_stopped going_now c m.at)

  pub member_unmarked : (r : Bool) → Marked v m.at r → r ≡ false → RowSaid b v e p n first (unfit ValueShape m.at) m.notes
  member_unmarked r k f = member_stopped (λ _. []) ValueShape (value_shape T m.t v m.at m.so_far.within n (λ _. []) (k.no f))

  -- what is said of it
  abbrev pub Said : Ruling → List ℕ → Type 0
  Said y last = (y ≡ told (contents_form T (n - 1) (T m.t).body) v (judge_value T n m.t (drop m.at v))) × Noting m.at m.notes last y (λ l. Noted
      T v l n m.t m.at)

  module _ (y : Ruling) (last : List ℕ) (S : Said y last) where
    pub member_refused : (k : JudgingCause) (q : ℕ) → y ≡ unfit k q → RowSaid b v e p n first (unfit k q) last
    member_refused k q d =
        (row_refused T n _ v m.at m.total m.t Rest left_now _ y k q S.0 d, going_refused going_now last y k q S.1)

    pub member_fit : (d : Judged) → y ≡ Ok d → Said (Ok d) last
    member_fit d e = rw e at S

  pub member_small : (d : Judged) (last : List ℕ) → Said (Ok d) last → d.size < 8194
  member_small d last S = told_small _ v _ _ d.end d.size S.0 refl

  -- its entry x: it is a leaf, or a constructed node
  module _ (x : Descriptor) (ex : x ≡ described (get_or index m.t 0)) where
    pub entry_known : Known b x
    entry_known = rw ex (known b index m.ready.listed m.t member_there)

    entry_record : record_in b x ≡ T m.t
    entry_record = rw ex (known_record b index m.ready.listed m.t member_there)

    pub member_not_awaited : (get_or v (m.at + 2) 0 ≡ octet_of x.kind → ⊥) → (c : JudgingCause)
        → ((T : Table) (t : ℕ) → (get_or v (m.at + 2) 0 ≡ kind (T t).body → ⊥) → unfit c m.at ≡ told (contents_form T (n - 1) (T t).body) v (judge_value T n t (drop m.at v)))
        → RowSaid b v e p n first (unfit c m.at) m.notes
    member_not_awaited f c tells =
        let k : octet_of x.kind ≡ kind (T m.t).body = entered_kind entry_known.entered ∙ ap (λ (r : Record). kind r.body) entry_record in
        member_stopped _ c (tells T m.t (λ z. f (z ∙ sym k)))

    pub entry_leaf : x.simple ≡ true → constructed_of (octet_of x.kind) ≡ false
    entry_leaf f = not-true _ (sym (known_simple b x entry_known) ∙ f)

    pub entry_built : x.simple ≡ false → constructed_of (octet_of x.kind) ≡ true
    entry_built f = not-false _ (sym (known_simple b x entry_known) ∙ f)

    pub leaf_said : get_or v (m.at + 2) 0 ≡ octet_of x.kind → x.simple ≡ true → (y : Ruling)
        → ((T : Table) (t : ℕ) → (T t).body ≡ (record_in b x).body → y ≡ told (contents_form T (n - 1) (T t).body) v (judge_value T n t (drop m.at v)))
        → Said y m.notes
    leaf_said o f y tells =
        let g = tells T m.t (ap (λ (r : Record). r.body) (sym entry_record)) in
        (g, leaf_noting T v n m.t m.at m.so_far.within (rw o (entry_leaf f)) _ y g m.notes)

    pub member_done : (d : Judged) (last : List ℕ) → Said (Ok d) last → (k total : ℕ) → k ≡ framed (record_in b x).tags d.size → total ≡ cap (m.total + k)
        → GoingOn b v e p n first (m.i + 1) d.end total last
    member_done d last S k total ek et =
        let g : k ≡ framed (T m.t).tags d.size = ek ∙ ap (λ (r : Record). framed r.tags d.size) entry_record in
        let z = value_came T n m.t v m.at (ready_tagged m.ready) m.so_far.within _ d.end d.size k S.0 refl g in
        record {
          within = z.within;
          small = rw et (cap_below (m.total + k));
          left = rw et (row_turn T n _ v m.at m.total m.t Rest left_now d.end k z);
          going = going_turn going_now last _ d.end d.size S.1 refl z.onward (λ l. row_noted T v n m.t Rest m.at d.end k z l);
        }
