-- Laws of the walk that gathers first tags.
-- Assumes nothing.
use mathlib.Core.List.Memᴰ.{cases_cons as in_cons}
use mathlib.Core.List.Memᴰ.{head as first_of}
use mathlib.Core.List.Memᴰ.{not-nil as not_in_nil}
use mathlib.Core.List.Memᴰ.{tail as later}
use mathlib.Core.List.{List, [], ◌∷◌, ◌++◌, Memᴰ as In}
use mathlib.Core.Logic.{◌⊎◌, inl, inr, ⊎_elim}
use mathlib.Core.Path.{◌≡◌, refl, sym, ap, ◌∙◌}
use Prim.Native.Nat.{ℕ, zero, suc, ◌+◌, ◌<◌}
use native.Mathlib.Nat.{le_of_suc-le-suc, not-suc-le-zero}
use native.Mathlib.Omega.{arith}
use lib.Dec.{eqb}
use lib.ListN.{length, get_or, set, length-set}
use lib.Seq.{get_or-set_same, get_or-set_other}
use borrow.Author.Tests.{eqb-true, eqb-false}
use Rattle.octets.proofs.Tests.{test}
use Rattle.table.specs.Syntax.{Tag, Table}
use Rattle.table.specs.Rules.{below, tags_below}
use Rattle.table.specs.Walk.{like, free, Hits, at, under, Walks, done, seen, down}
use Rattle.table.proofs.Nodes.{like_alone, like_untagged}

-- a record that is marked is one fewer that is free
pub one_fewer : (v : List ℕ) (k m : ℕ) → k < length v → get_or v k 0 ≡ 0 → (m ≡ 0 → ⊥) → free (set v k m) + 1 ≡ free v
unfolding free
one_fewer [] k m h e z = absurd (not-suc-le-zero h)
one_fewer (x ∷ v) zero zero h e z = absurd (z refl)
one_fewer (x ∷ v) zero (suc m) h e z = rw e (omega arith)
one_fewer (x ∷ v) (suc k) m h e z = omega (arith, one_fewer v k m (le_of_suc-le-suc h) e z)

-- what the mark of node j is at the end
pub data Kept (T : Table) (m : ℕ) (v ks w : List ℕ) (j : ℕ) : Type 0 where
  kept : get_or w j 0 ≡ get_or v j 0 → Kept T m v ks w j
  newly : get_or v j 0 ≡ 0 → get_or w j 0 ≡ m → (k : ℕ) → In k ks → Hits T j k → Kept T m v ks w j

module _ {T : Table} {m : ℕ} where
  pub same_size : {v ks w : List ℕ} → Walks T m v ks w → length w ≡ length v
  same_size done = refl
  same_size (seen e x) = same_size x
  same_size (down {v} {u} {w} {ks} {k} h e x y) = same_size y ∙ same_size x ∙ length-set v (like T k) m

  pub walks_append : {v u w ks : List ℕ} (ls : List ℕ) → Walks T m v ks u → Walks T m u ls w → Walks T m v (ks ++ ls) w
  walks_append ls done y = y
  walks_append ls (seen e x) y = seen e (walks_append ls x y)
  walks_append ls (down h e x z) y = down h e x (walks_append ls z y)

  more : {v w ks : List ℕ} (k : ℕ) {j : ℕ} → Kept T m v ks w j → Kept T m v (k ∷ ks) w j
  more k (kept e) = kept e
  more k (newly z e a i h) = newly z e a (later i) h

  -- the three steps of `down`: the mark is put, the records under k are walked, and then the others
  three : (v u w ks : List ℕ) (k j : ℕ) → like T k < length v → get_or v (like T k) 0 ≡ 0
      → Kept T m (set v (like T k) m) (below T k) u j → Kept T m u ks w j → Kept T m v (k ∷ ks) w j
  three v u w ks k j h e (kept p) (kept q) =
      test (eqb j (like T k))
      (λ y. let y = eqb-true j (like T k) y in newly (rw y e) (q ∙ p ∙ rw y (get_or-set_same v (like T k) m 0 h)) k (first_of refl) (at y))
      (λ n. kept (q ∙ p ∙ get_or-set_other v (like T k) j m 0 (eqb-false j (like T k) n)))
  three v u w ks k j h e (newly z p a i x) (kept q) =
      test (eqb j (like T k))
      (λ y. let y = eqb-true j (like T k) y in newly (rw y e) (q ∙ p) k (first_of refl) (at y))
      (λ n. newly (sym (get_or-set_other v (like T k) j m 0 (eqb-false j (like T k) n)) ∙ z) (q ∙ p) k (first_of refl) (under a i x))
  three v u w ks k j h e (kept p) (newly z q a i x) =
      test (eqb j (like T k))
      (λ y. let y = eqb-true j (like T k) y in newly (rw y e) q k (first_of refl) (at y))
      (λ n. newly (sym (get_or-set_other v (like T k) j m 0 (eqb-false j (like T k) n)) ∙ (sym p ∙ z)) q a (later i) x)
  three v u w ks k j h e (newly y p b l o) (newly z q a i x) =
      test (eqb j (like T k))
      (λ y. let y = eqb-true j (like T k) y in newly (rw y e) q k (first_of refl) (at y))
      (λ n. newly (sym (get_or-set_other v (like T k) j m 0 (eqb-false j (like T k) n)) ∙ y) q k (first_of refl) (under b l o))

  pub keeps : {v ks w : List ℕ} → Walks T m v ks w → (j : ℕ) → Kept T m v ks w j
  keeps done j = kept refl
  keeps (seen {k = k} e x) j = more k (keeps x j)
  keeps (down {v} {u} {w} {ks} {k} h e x y) j = three v u w ks k j h e (keeps x j) (keeps y j)

  -- a mark stays
  pub stays : {v ks w : List ℕ} → Walks T m v ks w → (j : ℕ) → get_or v j 0 ≡ m → get_or w j 0 ≡ m
  stays {v} {ks} {w} x j e = by (keeps x j)
    where
      by : Kept T m v ks w j → get_or w j 0 ≡ m
      by (kept p) = p ∙ e
      by (newly y p a i h) = p

  -- each record that was to be walked is marked
  pub walked : {v ks w : List ℕ} → Walks T m v ks w → (k : ℕ) → In k ks → get_or w (like T k) 0 ≡ m
  walked done k i = absurd (not_in_nil i)
  walked (seen {v = v} {w = w} {ks = ks} {k = a} e x) k i =
      ⊎_elim (λ q. rw q (stays x (like T a) e)) (λ l. walked x k l) (in_cons i)
  walked (down {v = v} {u = u} {w = w} {ks = ks} {k = a} h e x y) k i =
      ⊎_elim
      (λ q. rw q (stays y (like T a) (stays x (like T a) (get_or-set_same v (like T a) m 0 h))))
      (λ l. walked y k l)
      (in_cons i)

-- what stands for the records under a record that j stands for
abbrev pub Under : Table → ℕ → List ℕ → ℕ → Type 0
Under T m w j = (k : ℕ) → like T k ≡ j → (a : ℕ) → In a (below T k) → get_or w (like T a) 0 ≡ m

-- one node stands for records with the same alternatives below them
pub like_below : (T : Table) (k l : ℕ) → like T k ≡ like T l → below T k ≡ below T l
unfolding tags_below
like_below T k l e = by (T k).tags refl (T l).tags refl
  where
    by : (gs : List Tag) → (T k).tags ≡ gs → (hs : List Tag) → (T l).tags ≡ hs → below T k ≡ below T l
    by [] p hs q = ap (λ t. below T t) (sym (like_alone T l k p (sym (like_untagged T k p) ∙ e)))
    by (g ∷ gs) p [] q = ap (λ t. below T t) (like_alone T k l q (sym (like_untagged T l q) ∙ sym e))
    by (g ∷ gs) p (h ∷ hs) q = rw (p, q)

module _ {T : Table} {m : ℕ} where
  -- a node that the walk marks has all marked that stands under it
  pub closed : {v ks w : List ℕ} → Walks T m v ks w → (j : ℕ) → get_or w j 0 ≡ m → (get_or v j 0 ≡ m) ⊎ Under T m w j
  closed done j e = inl e
  closed (seen d x) j e = closed x j e
  closed (down {v = v} {u = u} {w = w} {ks = ks} {k = k} h d x y) j e =
      ⊎_elim
      (λ p. ⊎_elim
      (λ q. test (eqb j (like T k))
      (λ s. inr (λ l r a i. stays y (like T a) (walked x a (rw (like_below T l k (r ∙ eqb-true j (like T k) s)) at i))))
      (λ n. inl (sym (get_or-set_other v (like T k) j m 0 (eqb-false j (like T k) n)) ∙ q)))
      (λ c. inr (λ l r a i. stays y (like T a) (c l r a i)))
      (closed x j p))
      (λ c. inr c)
      (closed y j e)

  spread : (w : List ℕ) {q k : ℕ} → ((j : ℕ) → get_or w j 0 ≡ m → Under T m w j) → Hits T q k → get_or w (like T k) 0 ≡ m → get_or w q 0 ≡ m
  spread w c (at e) p = rw e p
  spread w c (under {k = k} a i h) p = spread w c h (c (like T k) p k refl a i)

  -- from no such mark, all that is hit is marked
  pub complete : {v ks w : List ℕ} → ((j : ℕ) → get_or v j 0 ≡ m → ⊥) → Walks T m v ks w → (k : ℕ) → In k ks → {q : ℕ} → Hits T q k → get_or w q 0 ≡ m
  complete {w = w} n x k i h = spread w (λ j e. ⊎_elim (λ p. absurd (n j p)) (λ c. c) (closed x j e)) h (walked x k i)
