-- Runs (FORMATS, "Tables"). First the rule 5 itself on small tables: which members of a SEQUENCE stand in one run, and that any two parts of a SET or a CHOICE do.
-- Then the test that goes through a list: it finds two places exactly if they stand in one run.
-- Assumes nothing.
use mathlib.Core.Bool.{Bool, true, false, not, ◌||◌, false≢true}
use mathlib.Core.Logic.{⊎_elim}
use mathlib.Core.List.{List, [], ◌∷◌}
use mathlib.Core.Path.{◌≡◌, refl}
use Prim.Native.Nat.{ℕ, zero, suc, ◌≤◌, ◌<◌}
use native.Mathlib.Omega.{arith}
use lib.ListN.{length, get_or}
use borrow.Author.Tests.{not-false}
use Rattle.octets.specs.Lists.{lowest_from, lowest}
use Rattle.octets.proofs.Search.{upto, passes_later, passes_longer}
use Rattle.octets.proofs.Lists.{both}
use Rattle.octets.proofs.Members.{or_cases, or_left, or_right}
use Rattle.table.specs.Syntax.{Tag, Member, Boolean, Integer, Body, Plain, Sequence, Set, Choice, Record, Table, table, references}
use Rattle.table.specs.Rules.{outermost, siblings, runs_on, Sharing}
use Rattle.table.specs.Decide.{reached, pair}

-- a BOOLEAN is record 1 and an INTEGER record 2
abbrev tagged : ℕ → Body → Record
tagged n b = record { tags = record { class = 0; number = n } ∷ []; body = b }

abbrev with : Body → Table
with b = table (tagged 16 b ∷ tagged 1 (Plain Boolean) ∷ tagged 2 (Plain Integer) ∷ [])

abbrev may : ℕ → Member
may t = record { type = t; optional = true }

abbrev must : ℕ → Member
must t = record { type = t; optional = false }

abbrev Shares : Body → Type 0
Shares b = Sharing (with b) 0

abbrev boolean : Tag
boolean = record { class = 0; number = 1 }

-- computed: every number below n passes
passes_all : (f : ℕ → Bool) (n : ℕ) → lowest (λ k. not (f k)) n ≡ n → (k : ℕ) → k < n → f k ≡ true
passes_all f n e k l = not-false (f k) (upto (λ k. not (f k)) n e k l)

-- the BOOLEAN, optional, and again: one run
optional_then_mandatory : Shares (Sequence (may 1 ∷ must 1 ∷ []))
unfolding lowest_from table siblings references runs_on
optional_then_mandatory =
    record {
      i = 0;
      j = 1;
      apart = omega arith;
      within = omega arith;
      one_run = λ k _ l. passes_all (runs_on (Sequence (may 1 ∷ must 1 ∷ []))) 1 refl k (omega (arith, l));
      tag = boolean;
      first = outermost [] refl;
      second = outermost [] refl;
    }

-- the same BOOLEAN behind another part, if the run goes on behind both
behind_another : (b : Body) → siblings b ≡ 1 ∷ 2 ∷ 1 ∷ [] → ((k : ℕ) → k < 2 → runs_on b k ≡ true) → Shares b
unfolding table
behind_another b e on =
    record {
      i = 0;
      j = 2;
      apart = omega arith;
      within = rw e (omega arith);
      one_run = λ k _ l. on k (omega (arith, l));
      tag = boolean;
      first = rw e (outermost [] refl);
      second = rw e (outermost [] refl);
    }

-- with an optional INTEGER between
optional_between : Shares (Sequence (may 1 ∷ may 2 ∷ must 1 ∷ []))
unfolding lowest_from siblings references runs_on
optional_between = behind_another _ refl (passes_all (runs_on (Sequence (may 1 ∷ may 2 ∷ must 1 ∷ []))) 2 refl)

-- the first mandatory: two runs
two_mandatory : Shares (Sequence (must 1 ∷ must 1 ∷ [])) → ⊥
unfolding table siblings references runs_on
two_mandatory x = false≢true (x.one_run 0 (omega (arith, x.apart, x.within)) (omega (arith, x.apart)))

mandatory_then_optional : Shares (Sequence (must 1 ∷ may 1 ∷ [])) → ⊥
unfolding table siblings references runs_on
mandatory_then_optional x = false≢true (x.one_run 0 (omega (arith, x.apart, x.within)) (omega (arith, x.apart)))

-- a SET is one run, and so is a CHOICE
two_of_a_set : Shares (Set (must 1 ∷ must 2 ∷ must 1 ∷ []))
unfolding siblings references runs_on
two_of_a_set = behind_another _ refl (λ k _. refl)

two_alternatives : Shares (Choice (1 ∷ 2 ∷ 1 ∷ []))
unfolding siblings runs_on
two_alternatives = behind_another _ refl (λ k _. refl)

-- a place of a list that passes the test, and the run goes on up to it
record Reached (on : ℕ → Bool) (f : ℕ → Bool) (l : List ℕ) : Type 0 where
  place : ℕ
  within : place < length l
  run : (k : ℕ) → k < suc place → on k ≡ true
  passes : f (get_or l place 0) ≡ true

-- two places of a list in one run that the test relates
pub record Pair (on : ℕ → Bool) (f : ℕ → ℕ → Bool) (l : List ℕ) : Type 0 where
  pub i : ℕ
  pub j : ℕ
  pub apart : i < j
  pub within : j < length l
  pub one_run : (k : ℕ) → i ≤ k → k < j → on k ≡ true
  pub related : f (get_or l i 0) (get_or l j 0) ≡ true

some_reached : (on f : ℕ → Bool) (l : List ℕ) → reached on f l ≡ true → Reached on f l
unfolding reached
some_reached on f [] e = absurd (false≢true e)
some_reached on f (c ∷ l) e =
    let o = both (on 0) (f c || reached (λ k. on (suc k)) f l) e in
    ⊎_elim
    (λ p. record { place = 0; within = omega arith; run = λ k m. let q : k ≡ 0 = omega arith in rw q o.0; passes = p })
    (λ p. let r = some_reached (λ k. on (suc k)) f l p in
    record { place = suc r.place; within = omega (arith, r.within); run = passes_longer on (suc r.place) o.0 r.run; passes = r.passes })
    (or_cases (f c) _ o.1)

reached_at : (on f : ℕ → Bool) (l : List ℕ) (j : ℕ) → j < length l → ((k : ℕ) → k < suc j → on k ≡ true) → f (get_or l j 0) ≡ true → reached on f l ≡ true
unfolding reached
reached_at on f [] j w r p = absurd (omega arith)
reached_at on f (c ∷ l) zero w r p = rw (r 0 (omega arith), p)
reached_at on f (c ∷ l) (suc j) w r p =
    rw (r 0 (omega arith)) (or_right (f c) _ (reached_at (λ k. on (suc k)) f l j (omega arith) (λ k m. r (suc k) (omega arith)) p))

first_pair : (on : ℕ → Bool) (f : ℕ → ℕ → Bool) (a : ℕ) (l : List ℕ) → Reached on (f a) l → Pair on f (a ∷ l)
first_pair on f a l r =
    record { i = 0; j = suc r.place; apart = omega arith; within = omega (arith, r.within); one_run = λ k _ h. r.run k h; related = r.passes }

next_pair : (on : ℕ → Bool) (f : ℕ → ℕ → Bool) (a : ℕ) (l : List ℕ) → Pair (λ k. on (suc k)) f l → Pair on f (a ∷ l)
next_pair on f a l p =
    record {
      i = suc p.i;
      j = suc p.j;
      apart = omega (arith, p.apart);
      within = omega (arith, p.within);
      one_run = passes_later on p.i p.j p.one_run;
      related = p.related;
    }

pub some_pair : (on : ℕ → Bool) (f : ℕ → ℕ → Bool) (l : List ℕ) → pair on f l ≡ true → Pair on f l
unfolding pair
some_pair on f [] e = absurd (false≢true e)
some_pair on f (a ∷ l) e =
    ⊎_elim (λ h. first_pair on f a l (some_reached on (f a) l h)) (λ h. next_pair on f a l (some_pair (λ k. on (suc k)) f l h)) (or_cases (reached on (f a) l) _ e)

pub paired : (on : ℕ → Bool) (f : ℕ → ℕ → Bool) (l : List ℕ) (i j : ℕ) → i < j → j < length l → ((k : ℕ) → i ≤ k → k < j → on k ≡ true)
    → f (get_or l i 0) (get_or l j 0) ≡ true → pair on f l ≡ true
unfolding pair
paired on f [] i j h w r e = absurd (omega arith)
paired on f (a ∷ l) i zero h w r e = absurd (omega arith)
paired on f (a ∷ l) zero (suc j) h w r e = or_left (reached on (f a) l) _ (reached_at on (f a) l j (omega arith) (λ k m. r k (omega arith) (omega arith)) e)
paired on f (a ∷ l) (suc i) (suc j) h w r e =
    or_right (reached on (f a) l) _ (paired (λ k. on (suc k)) f l i j (omega arith) (omega arith) (λ k g m. r (suc k) (omega arith) (omega arith)) e)
