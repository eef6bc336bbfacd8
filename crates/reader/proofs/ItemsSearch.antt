-- The part that an item begins, by codes: the first that begins with the item's code itself, else the first under which a record does.
-- Assumes nothing.
use borrow.Author.Tests.{eqb-true, eqb-false}
use lib.Dec.{eqb}
use lib.ListN.{get_or, drop}
use mathlib.Core.Bool.{Bool, true, false, true≢false}
use mathlib.Core.List.{List, [], ◌∷◌}
use mathlib.Core.Option.{some, none-ne-some}
use mathlib.Core.Path.{◌≡◌, refl, sym, ap, ◌∙◌}
use Prim.Native.Nat.{ℕ, zero, suc}
use Rattle.x690.specs.declared.ReadingCause.{ReadingCause}
use Rattle.octets.specs.Answer.{Answer, got, refused, if}
use Rattle.octets.specs.Lists.{any}
use Rattle.octets.specs.Numbers.{Octets}
use Rattle.octets.proofs.Tests.{test, or_false}
use Rattle.x690.specs.Reading.{read_identifier}
use Rattle.table.specs.Syntax.{Member, Plain, Sequence, Set, SequenceOf, SetOf, Choice, Table}
use Rattle.coding.specs.Awaited.{types, awaited, begins}
use Rattle.coding.specs.Reading.{passes, begun}
use Rattle.coding.proofs.FirstTags.{Distinct, Apart, GoodBody}
use Rattle.reader.specs.Codes.{under, starts_with, peeked, hit, search_in}
use Rattle.reader.proofs.Begun.{Fit, begun_hit}
use Rattle.reader.specs.Items.{Holder, inside, message, in_turn, manner, parts_of, optionals, Placed, pending, up_to_mandatory, within, awaits}
use Rattle.reader.specs.Items.{first}
use Rattle.reader.proofs.Items.{Clear, first_same, pending_free, pending_come}

-- at most one passes
module _ {A : Type 0} where
  unfoldable pub Lone : (A → Bool) → List A → Type 0
  Lone f [] = Unit {0}
  Lone f (x ∷ l) = (f x ≡ true → any f l ≡ false) × Lone f l

  pub first_any : (f : A → Bool) (l : List A) (x : A) → first f l ≡ some x → any f l ≡ true
  unfolding first any if
  first_any f [] x e = absurd (none-ne-some x e)
  first_any f (y ∷ l) x e = test (f y) (λ b. rw b refl) λ b. rw b (first_any f l x (rw b at e))

  any_later : (f g : A → Bool) → ((x : A) → f x ≡ true → g x ≡ true) → (l : List A) → any g l ≡ false → any f l ≡ false
  unfolding any
  any_later f g h [] e = refl
  any_later f g h (x ∷ l) e =
      let q = or_false (g x) (any g l) e in
      test (f x) (λ b. absurd (true≢false (sym (h x b) ∙ q.0))) λ b. rw b (any_later f g h l q.1)

  -- the first of few is the first of all, if at most one of all passes
  pub first_lone : (f g : A → Bool) → ((x : A) → f x ≡ true → g x ≡ true) → (l : List A) → Lone g l → (x : A) → first f l ≡ some x → first g l ≡ some x
  unfolding first Lone if
  first_lone f g h [] u x e = e
  first_lone f g h (y ∷ l) u x e =
      test (f y)
      (λ b. rw (h y b) (rw b at e))
      λ b.
      let k = rw b at e in
      test (g y)
      (λ c. absurd (true≢false (sym (first_any f l x k) ∙ any_later f g h l (u.0 c))))
      λ c. rw c (first_lone f g h l u.1 x k)

-- parts that need not come
pub optional_types : (ts : List ℕ) → types (optionals ts) ≡ ts
optional_types [] = refl
optional_types (t ∷ ts) = ap (λ (l : List ℕ). t ∷ l) (optional_types ts)

-- a record's parts are apart; a message has one
unfoldable pub GoodHolder : Table → Holder → Type 0
GoodHolder T (inside b) = GoodBody T b
GoodHolder T (message t) = Unit {0}

-- parts of one record
module _ (T : Table) (s : List ℕ) where
  abbrev pub Begun : Placed → Bool
  Begun x = begun T x.1.type s

  -- what holds of identifier octets holds of the item
  begun_apart : (t : ℕ) (ts : List ℕ) → ((i : List ℕ) → begins T t i ≡ true → any (λ u. begins T u i) ts ≡ false) → begun T t s ≡ true
      → any (λ u. begun T u s) ts ≡ false
  unfolding begun passes
  begun_apart t ts h = go (read_identifier s)
    where
      go : (x : Answer ReadingCause (List ℕ)) → passes (begins T t) x ≡ true → any (λ u. passes (begins T u) x) ts ≡ false
      go (got i w) e = h i e
      go (refused c l) e = absurd (true≢false (sym e))

  module _ (came : List ℕ) where
    -- members of a SEQUENCE
    any_reached : Clear came → (k : ℕ) (ms : List Member) → any (λ u. begun T u s) (awaited ms) ≡ false → any Begun (up_to_mandatory (pending came k ms)) ≡ false
    unfolding pending up_to_mandatory any awaited if
    any_reached clear k [] e = refl
    any_reached clear k (m ∷ ms) e =
        let q = or_false (begun T m.type s) _ e in
        rw (pending_free came k m ms (clear k), q.0)
        (test m.optional (λ o. rw o (any_reached clear (suc k) ms (rw o at q.1))) λ o. rw o refl)

    lone_sequence : Clear came → (k : ℕ) (ms : List Member) → Apart T ms → Lone Begun (up_to_mandatory (pending came k ms))
    unfolding pending up_to_mandatory any Lone Apart if
    lone_sequence clear k [] d = tt
    lone_sequence clear k (m ∷ ms) d =
        rw (pending_free came k m ms (clear k))
        (test m.optional
        (λ o. rw o (λ b. any_reached clear (suc k) ms (begun_apart m.type (awaited ms) (λ i. d.0 i o) b), lone_sequence clear (suc k) ms d.1))
        λ o. rw o (λ b. refl, tt))

    -- members of a SET, alternatives
    any_pending : (k : ℕ) (ms : List Member) → any (λ u. begun T u s) (types ms) ≡ false → any Begun (pending came k ms) ≡ false
    unfolding pending any
    any_pending k [] e = refl
    any_pending k (m ∷ ms) e =
        let q = or_false (begun T m.type s) _ e in
        test (eqb (get_or came k 0) 0)
        (λ z. rw (pending_free came k m ms (eqb-true (get_or came k 0) 0 z), q.0) (any_pending (suc k) ms q.1))
        λ z. rw (pending_come came k m ms (eqb-false (get_or came k 0) 0 z)) (any_pending (suc k) ms q.1)

    lone_pending : (k : ℕ) (ms : List Member) → Distinct T (types ms) → Lone Begun (pending came k ms)
    unfolding pending Lone Distinct
    lone_pending k [] d = tt
    lone_pending k (m ∷ ms) d =
        test (eqb (get_or came k 0) 0)
        (λ z. rw (pending_free came k m ms (eqb-true (get_or came k 0) 0 z))
        (λ b. any_pending (suc k) ms (begun_apart m.type (types ms) d.0 b), lone_pending (suc k) ms d.1))
        λ z. rw (pending_come came k m ms (eqb-false (get_or came k 0) 0 z)) (lone_pending (suc k) ms d.1)

  drop_apart : (j : ℕ) (ms : List Member) → Apart T ms → Apart T (drop j ms)
  unfolding Apart
  drop_apart zero ms d = d
  drop_apart (suc j) [] d = d
  drop_apart (suc j) (m ∷ ms) d = drop_apart j ms d.1

  drop_distinct : (j : ℕ) (ms : List Member) → Distinct T (types ms) → Distinct T (types (drop j ms))
  unfolding Distinct
  drop_distinct zero ms d = d
  drop_distinct (suc j) [] d = d
  drop_distinct (suc j) (m ∷ ms) d = drop_distinct j ms d.1

  lone_one : (t j : ℕ) (came : List ℕ) → Lone Begun (pending came j (drop j (optionals (t ∷ []))))
  unfolding Distinct any
  lone_one t j came = lone_pending came j (drop j (optionals (t ∷ []))) (drop_distinct j (optionals (t ∷ [])) (λ i e. refl, tt))

  -- at most one of the parts that are awaited is begun
  pub lone_awaits : (h : Holder) → GoodHolder T h → (j : ℕ) (came : List ℕ) → ((p : ℕ) → manner h ≡ in_turn → get_or came p 0 ≡ 0) → Lone Begun (awaits h j came)
  unfolding GoodHolder GoodBody Distinct manner parts_of within
  lone_awaits (inside (Plain k)) d j came clear = lone_pending came j (drop j []) (drop_distinct j [] tt)
  lone_awaits (inside (Sequence ms)) d j came clear = lone_sequence came (λ p. clear p refl) j (drop j ms) (drop_apart j ms d)
  lone_awaits (inside (Set ms)) d j came clear = lone_pending came j (drop j ms) (drop_distinct j ms d)
  lone_awaits (inside (SequenceOf t)) d j came clear = lone_one t j came
  lone_awaits (inside (SetOf t)) d j came clear = lone_one t j came
  lone_awaits (inside (Choice ts)) d j came clear = lone_pending came j (drop j (optionals ts)) (drop_distinct j (optionals ts) (rw optional_types d))
  lone_awaits (message t) d j came clear = lone_one t j came

-- the item's code: whether it begins a type
abbrev pub Tells : Table → List ℕ → ℕ → Type 0
Tells T s code = (t : ℕ) → begun T t s ≡ hit (search_in T 129 t code)

pub tells : (T : Table) → ((t : ℕ) → Fit (T t)) → (s : List ℕ) → Octets s → Tells T s (peeked (read_identifier s))
tells T fine s o t = begun_hit T fine t s o

module _ (T : Table) (s : List ℕ) (code : ℕ) (known : Tells T s code) where
  pub search_itself : (t : ℕ) → starts_with (T t) code ≡ true → search_in T 129 t code ≡ under t 0
  unfolding search_in if
  search_itself t e = rw e refl

  itself_begun : (t : ℕ) → starts_with (T t) code ≡ true → begun T t s ≡ true
  itself_begun t e = known t ∙ ap hit (search_itself t e)

  module _ (h : Holder) (good : GoodHolder T h) (j : ℕ) (came : List ℕ) (clear : (p : ℕ) → manner h ≡ in_turn → get_or came p 0 ≡ 0) where
    -- the first that begins with the code itself is the one that is begun
    pub direct_next : (x : Placed) → first (λ x. starts_with (T x.1.type) code) (awaits h j came) ≡ some x
        → first (λ x. begun T x.1.type s) (awaits h j came) ≡ some x
    direct_next x e =
        first_lone (λ x. starts_with (T x.1.type) code) (Begun T s) (λ x. itself_begun x.1.type)
        (awaits h j came) (lone_awaits T s h good j came clear) x e

  -- in all cases it is the first under which the search finds a record
  pub indirect_next : (l : List Placed) → first (λ x. begun T x.1.type s) l ≡ first (λ x. hit (search_in T 129 x.1.type code)) l
  indirect_next l = first_same (λ x. begun T x.1.type s) (λ x. hit (search_in T 129 x.1.type code)) l (λ x. known x.1.type)
