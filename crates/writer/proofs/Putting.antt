-- What is put: the form of an answer is what stands in front, then the form of what is still to be written.
-- Assumes nothing.
use mathlib.Core.Bool.{true, false}
use mathlib.Core.List.{List, [], ◌∷◌, ◌++◌}
use mathlib.Core.Path.{◌≡◌, refl, sym, ap, subst, ◌∙◌}
use Prim.Native.Nat.{ℕ, ◌+◌, ◌-◌, ◌≤◌, ◌<◌}
use native.Mathlib.Omega.{arith}
use lib.ListN.{length, get_or, drop, length-append, length-drop}
use lib.Seq.{sets}
use Rattle.coding.specs.declared.JudgingCause.{JudgingCause}
use Rattle.octets.specs.Answer.{Answer, got, refused, then}
use Rattle.octets.proofs.Answer.{got_holds}
use Rattle.table.specs.Syntax.{Table, constructed}
use Rattle.coding.specs.Value.{Value, leaf}
use Rattle.coding.specs.Form.{encode, form_at}
use Rattle.coding.specs.Judging.{judge_below, judge_value}
use Rattle.writer.specs.Nodes.{end_at, leaf_of, node_at}
use Rattle.writer.specs.Frames.{cap, heads}
use Rattle.writer.specs.Rows.{judge_each, judge_row, row_form, contents_form}
use Rattle.writer.specs.Told.{written, ended, IsDone}
use Rattle.writer.specs.Putting.{Fits, IsPut}
use Rattle.writer.specs.Notes.{note_at, ends_at, row_at, Noted}
use Rattle.writer.specs.declared.put.Placed.{Placed}
use Rattle.ber.proofs.Headers.{sets_append}
use Rattle.writer.proofs.Frames.{Tagged, cap_below, heads_wrap}
use Rattle.writer.proofs.Forms.{value_formed}
use Rattle.writer.proofs.Nodes.{built_kind, leaf_kind_lem, leaf_node}
use Rattle.writer.proofs.Rows.{Alike, alike_written, alike_ended, alike_done, below_row, row_take, value_behind}
use Rattle.writer.proofs.Below.{Accepted, accepted, stands}
use Rattle.writer.proofs.Below as below
use Rattle.writer.proofs.Notes.{value_note}

-- U is written as y and then J, and ends where J ends
pub record Split {A B : Type 0} (g : A → List ℕ) (U : Answer JudgingCause A) (y : List ℕ) (h : B → List ℕ) (J : Answer JudgingCause B) (v : List ℕ) : Type 0 where
  pub done : IsDone J
  pub is : written g U ≡ y ++ written h J
  pub ends : ended v U ≡ ended v J

-- a loop: of W, which was to be written from `to` on, U is still to be written, from `next` on
pub record Rest {A B : Type 0} (f : A → List ℕ) (W : Answer JudgingCause A) (g : B → List ℕ) (U : Answer JudgingCause B) (v : List ℕ) (to : ℕ) (first : List ℕ) (next : ℕ) (buf : List ℕ)
    : Type 0 where
  pub done : IsDone U
  pub short : length (written g U) ≤ 8192
  pub ends : ended v W ≡ ended v U
  pub long : to + length (written f W) ≡ next + length (written g U)
  pub target : sets first to (written f W) ≡ sets buf next (written g U)

pub rest_all : {A : Type 0} (f : A → List ℕ) (W : Answer JudgingCause A) (v : List ℕ) (to : ℕ) (first : List ℕ) → Fits f W to first → Rest f W f W v to first to first
rest_all f W v to first F = record { done = F.done; short = F.short; ends = refl; long = refl; target = refl }

module _ {A B : Type 0} (f : A → List ℕ) (W : Answer JudgingCause A) (g : B → List ℕ) (U : Answer JudgingCause B) (v : List ℕ) (to : ℕ) (first : List ℕ) (next : ℕ) (buf : List ℕ)
    (R : Rest f W g U v to first next buf) where
  rest_front : {C D : Type 0} (k : D → List ℕ) (X : Answer JudgingCause D) (h : C → List ℕ) (J : Answer JudgingCause C) → Split g U (written k X) h J v → IsDone X
      → to + length (written f W) ≤ length first → length buf ≡ length first → Fits k X next buf
  rest_front k X h J S d room e =
      let l : length (written g U) ≡ length (written k X) + length (written h J) = ap length S.is ∙ length-append (written k X) (written h J) in
      let s = R.short in
      let m = R.long in
      record { done = d; short = omega arith; room = omega arith }

  rest_turn : {C : Type 0} (y : List ℕ) (h : C → List ℕ) (J : Answer JudgingCause C) → Split g U y h J v → Rest f W h J v to first (next + length y) (sets buf next y)
  rest_turn y h J S =
      let l : length (written g U) ≡ length y + length (written h J) = ap length S.is ∙ length-append y (written h J) in
      let s = R.short in
      let m = R.long in
      record { done = S.done; short = omega arith; ends = R.ends ∙ S.ends; long = omega arith; target = R.target ∙ rw (S.is, sets_append) refl }

  rest_end : (e : ℕ) → ended v U ≡ e → written g U ≡ [] → (r : Placed) → r.end ≡ e → r.to ≡ next → IsPut f W v to first buf r
  rest_end e k n r re rt =
      let m = rw n at R.long in
      record { ends = re ∙ sym k ∙ sym R.ends; reaches = omega arith; buffer = sym (rw n at R.target) }

-- a callee's answer about parts, as its caller's about a value
then_split : {A B : Type 0} (g : B → List ℕ) (h : A → List ℕ) (y : List ℕ) (c : A → B) (J : Answer JudgingCause A) (v : List ℕ) → ((a : A) → g (c a) ≡ y ++ h a)
    → IsDone (then J λ a u. got (c a) u) → Split g (then J λ a u. got (c a) u) y h J v
unfolding then IsDone written ended
then_split g h y c (got a u) v k d = record { done = tt; is = k a; ends = refl }
then_split g h y c (refused n l) v k d = absurd d

-- a value that is done
record Came (T : Table) (n t : ℕ) (v : List ℕ) (at : ℕ) : Type 0 where
  value : Value
  is : judge_value T n t (drop at v) ≡ got value (drop (ended v (judge_value T n t (drop at v))) v)
  onward : at ≤ ended v (judge_value T n t (drop at v))
  within : ended v (judge_value T n t (drop at v)) ≤ length v
  done : IsDone (judge_value T n t (drop at v))
  form : written (form_at T n t) (judge_value T n t (drop at v)) ≡ form_at T n t value

came : (T : Table) (n t : ℕ) (v : List ℕ) (at : ℕ) → at ≤ length v → (x : Value) (w : List ℕ) → judge_value T n t (drop at v) ≡ got x w → Came T n t v at
unfolding IsDone written ended
came T n t v at h x w e =
    let b = got_holds (value_behind T n v t at h) e in
    let l = length-drop b.to v in
    let m = ap length b.is in
    let k = b.within in
    let f = b.onward in
    let q : length v - length w ≡ b.to = omega arith in
    record {
      value = x;
      is = rw (e, q) (ap (got x) b.is);
      onward = rw e (omega arith);
      within = rw e (omega arith);
      done = rw e tt;
      form = rw e refl;
    }

-- what follows a value that is done
by_answer : {X : Type 0} {B : Type 0} (a : Answer JudgingCause Value) (k : Value → List ℕ → Answer JudgingCause B) → IsDone (then a k) → ((x : Value) (w : List ℕ) → a ≡ got x w → X) → X
unfolding then IsDone
by_answer (got x w) k d f = f x w refl
by_answer (refused c l) k d f = absurd d

-- a row: the first value, then the others
module _ (T : Table) (n : ℕ) (v : List ℕ) where
  abbrev pub RowLeft : List ℕ → ℕ → Answer JudgingCause (List Value)
  RowLeft ts from = judge_row T n ts (drop from v)

  module _ (t : ℕ) (ts : List ℕ) (from : ℕ) (k : from ≤ length v) (d : IsDone (RowLeft (t ∷ ts) from)) where
    row_came : Came T n t v from
    unfolding judge_each
    row_came = by_answer (judge_value T n t (drop from v)) (λ x w. judge_each (λ u z. judge_value T n u z) ts (x ∷ []) w) d (came T n t v from k)

    row_split : Split (row_form T n (t ∷ ts)) (RowLeft (t ∷ ts) from) (written (form_at T n t) (judge_value T n t (drop from v))) (row_form T n ts) (RowLeft ts
        (ended v (judge_value T n t (drop from v)))) v
    unfolding row_form
    row_split =
        let z = row_came in
        let q = row_take (λ u w. judge_value T n u w) t ts (drop from v) (drop (ended v (judge_value T n t (drop from v))) v) z.value z.is in
        subst (λ (U : Answer JudgingCause (List Value)). Split (row_form T n (t ∷ ts)) U (written (form_at T n t) (judge_value T n t (drop from v))) (row_form T n ts) (RowLeft
        ts (ended v (judge_value T n t (drop from v)))) v) (sym q)
        (then_split (row_form T n (t ∷ ts)) (row_form T n ts) (written (form_at T n t) (judge_value T n t (drop from v))) (λ vs. z.value ∷ vs) (RowLeft ts (ended
        v (judge_value T n t (drop from v)))) v (λ vs. rw z.form refl) (subst IsDone q d))

  row_none : (from : ℕ) → from ≤ length v → (ended v (RowLeft [] from) ≡ from) × (written (row_form T n []) (RowLeft [] from) ≡ [])
  unfolding judge_each ended written row_form
  row_none from k = let l = length-drop from v in (omega arith, refl)

-- a value of type t at a place: its form, its contents, and where it ends
module _ (T : Table) (n t : ℕ) (v : List ℕ) (at : ℕ) where
  abbrev pub Form : List ℕ
  Form = written (form_at T n t) (judge_value T n t (drop at v))

  abbrev pub Contents : List ℕ
  Contents = written (contents_form T (n - 1) (T t).body) (judge_value T n t (drop at v))

  form_by : Tagged T → (a : Answer JudgingCause Value) → a ≡ judge_value T n t (drop at v) → IsDone a → length (written (form_at T n t) a) ≤ 8192
      → let c = written (contents_form T (n - 1) (T t).body) a in written (form_at T n t) a ≡ heads (constructed (T t).body) (T t).tags (cap (length c)) ++ c
  unfolding written IsDone
  form_by g (got x w) e y l =
      let q = got_holds (value_formed T g n t (drop at v)) (sym e) in
      q ∙ heads_wrap (constructed (T t).body) (T t).tags (contents_form T (n - 1) (T t).body x) (rw q at l)
  form_by g (refused c k) e y l = absurd y

  module _ (A : Accepted T n t v at) (h : at ≤ length v) where
    below_is : judge_value T n t (drop at v) ≡ judge_below (λ u w. judge_value T (n - 1) u w) (T t).body (node_at v at) (drop (end_at v at) v)
    below_is = below.value_below T t v at h n A.shaped A.level A.agreed

    module _ (c : constructed (T t).body ≡ false) where
      leaf_is : judge_value T n t (drop at v) ≡ got (leaf (leaf_of (get_or v (at + 2) 0) v (at + 3))) (drop (end_at v at) v)
      unfolding judge_below
      leaf_is = rw (below_is, leaf_node (get_or v (at + 2) 0) v (at + 3) (leaf_kind_lem (T t).body v at A.shaped A.agreed c)) refl

      leaf_contents : Contents ≡ encode (leaf_of (get_or v (at + 2) 0) v (at + 3))
      unfolding written contents_form
      leaf_contents = rw leaf_is refl

      leaf_ends : ends_at T v n t at ≡ end_at v at
      unfolding ended
      leaf_ends = let l = length-drop (end_at v at) v in let w = (stands v at h A.shaped).within in rw leaf_is (omega arith)

    module _ (c : constructed (T t).body ≡ true) where
      row_alike : Alike (contents_form T (n - 1) (T t).body) (row_form T (n - 1) (row_at T v t at)) (judge_value T n t (drop at v)) (RowLeft T (n - 1) v (row_at T
          v t at) (end_at v at))
      row_alike = rw below_is (below_row T (n - 1) (T t).body (node_at v at) (built_kind (T t).body v at A.shaped A.agreed c) (drop (end_at v at) v))

-- the loop over a row: of the row ts₀ at from₀, which was to be written from `to` on, the row ts at `from` is left, from `next` on
abbrev pub Rows : Table → ℕ → List ℕ → List ℕ → ℕ → ℕ → List ℕ → List ℕ → ℕ → ℕ → List ℕ → Type 0
Rows T n v ts₀ from₀ to first ts from next buf = Rest (row_form T n ts₀) (RowLeft T n v ts₀ from₀) (row_form T n ts) (RowLeft T n v ts from) v to first next buf

pub rows_end : (T : Table) (n : ℕ) (v ts₀ : List ℕ) (from₀ to : ℕ) (first : List ℕ) (from next : ℕ) (buf : List ℕ) → from ≤ length v
    → Rows T n v ts₀ from₀ to first [] from next buf → (r : Placed) → r.end ≡ from → r.to ≡ next
    → IsPut (row_form T n ts₀) (RowLeft T n v ts₀ from₀) v to first buf r
rows_end T n v ts₀ from₀ to first from next buf k R r re rt = let z = row_none T n v from k in rest_end _ _ _ _ v to first next buf R from z.0 z.1 r re rt

-- a turn of it: a value of type t is next
pub record Turn (T : Table) (n : ℕ) (v : List ℕ) : Type 0 where
  pub ts₀ : List ℕ
  pub from₀ : ℕ
  pub to : ℕ
  pub first : List ℕ
  pub tagged : Tagged T
  pub fits : Fits (row_form T n ts₀) (RowLeft T n v ts₀ from₀) to first
  pub t : ℕ
  pub ts : List ℕ
  pub at : ℕ
  pub next : ℕ
  pub buf : List ℕ
  pub within : at ≤ length v
  pub rows : Rows T n v ts₀ from₀ to first (t ∷ ts) at next buf
  pub same : length buf ≡ length first

-- what is left when the value is put: it ends at e, and what is put at `next`
abbrev pub Turned : {T : Table} {n : ℕ} {v : List ℕ} → Turn T n v → ℕ → ℕ → List ℕ → Type 0
Turned {T} {n} {v} u e next last = (u.at ≤ e) × (e ≤ length v) × Rows T n v u.ts₀ u.from₀ u.to u.first u.ts e next last

module _ {T : Table} {n : ℕ} {v : List ℕ} (u : Turn T n v) where
  value : Came T n u.t v u.at
  value = row_came T n v u.t u.ts u.at u.within u.rows.done

  split : Split (row_form T n (u.t ∷ u.ts)) (RowLeft T n v (u.t ∷ u.ts) u.at) (Form T n u.t v u.at) (row_form T n u.ts) (RowLeft T n v u.ts
      (ends_at T v n u.t u.at)) v
  split = row_split T n v u.t u.ts u.at u.within u.rows.done

  now_fits : Fits (form_at T n u.t) (judge_value T n u.t (drop u.at v)) u.next u.buf
  now_fits = rest_front _ _ _ _ v u.to u.first u.next u.buf u.rows _ _ _ _ split value.done u.fits.room u.same

  pub now_accepted : Accepted T n u.t v u.at
  now_accepted = accepted T n u.t v u.at u.within value.done

  abbrev pub Front : ℕ → List ℕ
  Front size = heads (constructed (T u.t).body) (T u.t).tags size

  turned : (e next : ℕ) (last : List ℕ) → e ≡ ends_at T v n u.t u.at → next ≡ u.next + length (Form T n u.t v u.at)
      → last ≡ sets u.buf u.next (Form T n u.t v u.at)
      → Turned u e next last
  turned e next last ee en el =
      rw (ee, en, el) (value.onward, value.within, rest_turn _ _ _ _ v u.to u.first u.next u.buf u.rows _ _ _ split)

  form_is : Form T n u.t v u.at ≡ Front (cap (length (Contents T n u.t v u.at))) ++ Contents T n u.t v u.at
  form_is = form_by T n u.t v u.at u.tagged (judge_value T n u.t (drop u.at v)) refl value.done now_fits.short

  contents_short : length (Contents T n u.t v u.at) ≤ 8192
  contents_short =
      let s = now_fits.short in
      let l = ap length form_is ∙ length-append (Front (cap (length (Contents T n u.t v u.at)))) (Contents T n u.t v u.at) in
      omega arith

  -- the size of the contents, to 8,193: a leaf is measured, and a constructed node is noted
  abbrev pub SizeIs : ℕ → Type 0
  SizeIs size = size ≡ cap (length (Contents T n u.t v u.at))

  module _ (c : constructed (T u.t).body ≡ false) where
    pub leaf_size_lem : (size : ℕ) → size ≡ length (encode (leaf_of (get_or v (u.at + 2) 0) v (u.at + 3))) → SizeIs size
    leaf_size_lem size e = let s = contents_short in let q = ap length (leaf_contents T n u.t v u.at now_accepted u.within c) in omega arith

    pub leaf_over : ends_at T v n u.t u.at ≡ end_at v u.at
    leaf_over = leaf_ends T n u.t v u.at now_accepted u.within c

  module _ (c : constructed (T u.t).body ≡ true) where
    alike : Alike (contents_form T (n - 1) (T u.t).body) (row_form T (n - 1) (row_at T v u.t u.at)) (judge_value T n u.t (drop u.at v)) (RowLeft T
        (n - 1) v (row_at T v u.t u.at) (end_at v u.at))
    alike = row_alike T n u.t v u.at now_accepted u.within c

    pub built_size : (size : ℕ) (notes : List ℕ) → Noted T v notes n u.t u.at → size ≡ note_at notes u.at → SizeIs size
    built_size size notes x e =
        e ∙ value_note T v n u.t u.at u.within now_accepted.level notes x c ∙ ap (λ (l : List ℕ). cap (length l)) (sym (alike_written alike))

    pub built_over : ends_at T v n u.t u.at ≡ ended v (RowLeft T (n - 1) v (row_at T v u.t u.at) (end_at v u.at))
    built_over = alike_ended alike v

  module _ (size : ℕ) (es : SizeIs size) where
    pub size_small : size < 8194
    size_small = rw es (cap_below _)

    form : Form T n u.t v u.at ≡ Front size ++ Contents T n u.t v u.at
    form = rw es form_is

    lengths : length (Form T n u.t v u.at) ≡ length (Front size) + length (Contents T n u.t v u.at)
    lengths = ap length form ∙ length-append (Front size) (Contents T n u.t v u.at)

    pub front_fits : u.next + length (Front size) ≤ length u.buf
    front_fits = let l = lengths in let r = now_fits.room in omega arith

    uncapped : size ≡ length (Contents T n u.t v u.at)
    uncapped = let l = contents_short in omega arith

    -- once the octets in front are put
    module _ (next : ℕ) (buf : List ℕ) (en : next ≡ u.next + length (Front size)) (eb : buf ≡ sets u.buf u.next (Front size)) (same : length buf ≡
        length u.buf) where
      put_contents : (e : ℕ) (last : List ℕ) → e ≡ ends_at T v n u.t u.at → last ≡ sets buf next (Contents T n u.t v u.at)
          → Turned u e (next + length (Contents T n u.t v u.at)) last
      put_contents e last ee el =
          let l = lengths in
          turned e _ last ee (omega arith) (el ∙ rw (eb, en, form, sets_append) refl)

      module _ (c : constructed (T u.t).body ≡ false) where
        leaf_octets_lem : Contents T n u.t v u.at ≡ encode (leaf_of (get_or v (u.at + 2) 0) v (u.at + 3))
        leaf_octets_lem = leaf_contents T n u.t v u.at now_accepted u.within c

        pub leaf_fits : (size ≡ length (encode (leaf_of (get_or v (u.at + 2) 0) v (u.at + 3)))) × (next + size ≤ length buf)
        leaf_fits = let l = lengths in let r = now_fits.room in let k = uncapped in (k ∙ ap length leaf_octets_lem, omega arith)

        pub leaf_turn : (e : ℕ) (last : List ℕ) → e ≡ end_at v u.at → last ≡ sets buf next (encode (leaf_of (get_or v (u.at + 2) 0) v (u.at + 3)))
            → Turned u e (next + size) last
        leaf_turn e last ee el = rw uncapped (put_contents e last (ee ∙ sym (leaf_over c)) (el ∙ ap (sets buf next) (sym leaf_octets_lem)))

      module _ (c : constructed (T u.t).body ≡ true) where
        pub built_fits : Fits (row_form T (n - 1) (row_at T v u.t u.at)) (RowLeft T (n - 1) v (row_at T v u.t u.at) (end_at v u.at)) next buf
        built_fits =
            let l = lengths in
            let r = now_fits.room in
            let s = now_fits.short in
            let q = ap length (alike_written (alike c)) in
            record { done = alike_done (alike c) value.done; short = omega arith; room = omega arith }

        pub built_turn : (y : Placed) (last : List ℕ)
            → IsPut (row_form T (n - 1) (row_at T v u.t u.at)) (RowLeft T (n - 1) v (row_at T v u.t u.at) (end_at v u.at)) v next buf last y
            → Turned u y.end y.to last
        built_turn y last P =
            let q = alike_written (alike c) in
            rw (P.reaches, ← q) (put_contents y.end last (P.ends ∙ sym (built_over c)) (P.buffer ∙ ap (sets buf next) (sym q)))
