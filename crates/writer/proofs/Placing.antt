-- What is put of all that stands in a node: the loop over a row, one law for each way through it.
-- Assumes nothing.
use mathlib.Core.Bool.{Bool, true, false, not}
use mathlib.Core.List.{List, ◌∷◌}
use mathlib.Core.Path.{◌≡◌, sym, ap, ◌∙◌}
use Prim.Native.Nat.{ℕ, ◌+◌, ◌-◌, ◌≤◌, ◌<◌}
use native.Mathlib.Omega.{arith}
use borrow.Author.Tests.{not-true, not-false}
use lib.ListN.{length, get_or}
use lib.Seq.{sets}
use Rattle.octets.specs.Numbers.{Octets}
use Rattle.table.specs.Syntax.{Record, Table, constructed}
use Rattle.table.specs.Reading.{table_in, count_in}
use Rattle.table.specs.Fields.{constructed_of}
use Rattle.kinds.specs.Kinds.{octet_of}
use Rattle.records.specs.Descriptors.{described}
use Rattle.records.specs.declared.descriptor.Descriptor.{Descriptor}
use Rattle.checker.proofs.Ready.{Ready, ready_by}
use Rattle.coding.specs.Form.{encode}
use Rattle.writer.specs.Nodes.{own_end, end_at, leaf_of}
use Rattle.writer.specs.Frames.{heads}
use Rattle.writer.specs.Known.{record_in, Known}
use Rattle.writer.specs.Standing.{start_at, count_at, below_at, row_from, row_in}
use Rattle.writer.specs.Notes.{note_at, row_at, NotedRow, ends_at}
use Rattle.writer.specs.Putting.{Puts, PutBy}
use Rattle.writer.specs.declared.put.Placed.{Placed}
use Rattle.checker.specs.declared.passed.Passed.{Passed}
use Rattle.writer.proofs.Known.{known, known_record, ready_tagged}
use Rattle.writer.proofs.Nodes.{own_end_is, leaf_kind_lem, constructed_node}
use Rattle.writer.proofs.Finding.{at_kind, at_shaped, at_stands, at_start, at_row}
use Rattle.writer.proofs.Standing.{row_there, row_missing, row_over, row_all}
use Rattle.writer.proofs.Below.{Accepted, stands}
use Rattle.writer.proofs.Notes.{first_noted, rest_noted, value_below}
use Rattle.std.specs.Prelude.{Option, Some}
use Rattle.octets.specs.Numbers.{if_below}
use Rattle.writer.proofs.Members.{some_below}
use Rattle.writer.proofs.Putting.{Rows, rest_all, rows_end, Turn, Turned, now_accepted, SizeIs, leaf_size_lem, leaf_over, built_size, built_over}
use Rattle.writer.proofs.Putting.{size_small, front_fits, leaf_fits, leaf_turn, built_fits, built_turn}

-- from the i-th on nothing is put yet
abbrev pub Still : {b v notes : List ℕ} {e : Descriptor} {p to : ℕ} {first : List ℕ} → Puts b v notes e p to first → ℕ → ℕ → ℕ → List ℕ → Type 0
Still {b} {v} {notes} {e} {p} {to} {first} X i at next buf =
    let row = row_from b e v p i (count_at e v p - i) in
    Rows (table_in b) X.level v (row_in b e v p) (start_at e v p) to first row at next buf × NotedRow (table_in b) v notes X.level row at

module _ {b v notes : List ℕ} {e : Descriptor} {p to : ℕ} {first : List ℕ} (X : Puts b v notes e p to first) where
  pub put_begin : (at : ℕ) → at ≡ start_at e v p → Still X 0 at to first
  put_begin at ea = rw (ea, ← row_all b e v p (count_at e v p)) (rest_all _ _ v to first X.fits, X.noted)

  -- a type that is there is a record's number
  put_type : (i t : ℕ) → i < count_at e v p → t ≡ below_at b e v p i → t < 256 → t < count_in b
  put_type i t h et g = rw et (X.stands.types i h (rw (← et) g))

  module _ (i at next : ℕ) (buf : List ℕ) (G : Still X i at next buf) where
    pub put_end_lem : at ≤ length v → count_at e v p ≤ i → (r : Placed) → r.end ≡ at → r.to ≡ next → PutBy X buf r
    put_end_lem k h r re rt =
        let q = row_over b e v p i (count_at e v p) h in
        rows_end (table_in b) X.level v (row_in b e v p) (start_at e v p) to first at next buf k (rw q at G.0) r re rt

    pub put_pass : i < count_at e v p → 256 ≤ below_at b e v p i → Still X (i + 1) at next buf
    put_pass h g = rw (row_missing b e v p i (count_at e v p) h g) at G

-- the i-th is there, of type t, whose entry is x
pub record Member {b v notes : List ℕ} {e : Descriptor} {p to : ℕ} {first : List ℕ} (index : List ℕ) (X : Puts b v notes e p to first) : Type 0 where
  pub octets : Octets b
  pub ready : Ready b index
  pub i : ℕ
  pub at : ℕ
  pub next : ℕ
  pub buf : List ℕ
  pub still : Still X i at next buf
  pub within : at ≤ length v
  pub same : length buf ≡ length first
  pub one : i < count_at e v p
  pub t : ℕ
  pub is : t ≡ below_at b e v p i
  pub there : t < 256
  pub x : Descriptor
  pub entry : x ≡ described (get_or index t 0)

-- as the code finds it: y is the entry of the row, c counts what stands before it
abbrev pub member : (z : Passed) {v notes : List ℕ} {e y x : Descriptor} {p to c : ℕ} {first : List ℕ}
    (X : Puts z.octets.now v notes e p to first) (i at next : ℕ) (buf : List ℕ)
    → Still X i at next buf → at ≤ length v → length buf ≡ length first → y ≡ e → c ≡ count_at y v p → i < c
    → (t : ℕ) → ◌≡◌ {A = Option ℕ} (Some t) (if_below 256 (below_at z.octets.now y v p i)) → x ≡ described (get_or z.index.now t 0)
    → Member z.index.now X
member z {v} {notes} {e} {y} {x} {p} {to} {c} {first} X i at next buf G w s ey ec h t et ex =
    record {
      octets = z.small;
      ready = ready_by z;
      i = i;
      at = at;
      next = next;
      buf = buf;
      still = G;
      within = w;
      same = s;
      one = rw ey at (rw ec at h);
      t = t;
      is = (some_below 256 (below_at z.octets.now e v p i) t (rw ey at et)).0;
      there = (some_below 256 (below_at z.octets.now e v p i) t (rw ey at et)).1;
      x = x;
      entry = ex;
    }

module _ {b index v notes : List ℕ} {e : Descriptor} {p to : ℕ} {first : List ℕ} {X : Puts b v notes e p to first} (m : Member index X) where
  abbrev T : Table
  T = table_in b

  abbrev Rest : List ℕ
  Rest = row_from b e v p (m.i + 1) (count_at e v p - (m.i + 1))

  row_is : row_from b e v p m.i (count_at e v p - m.i) ≡ m.t ∷ Rest
  row_is = row_there b e v p m.i (count_at e v p) m.one (rw (← m.is) m.there) ∙ ap (λ (j : ℕ). j ∷ Rest) (sym m.is)

  pub present : Rows T X.level v (row_in b e v p) (start_at e v p) to first (m.t ∷ Rest) m.at m.next m.buf × NotedRow T v notes X.level (m.t ∷
      Rest) m.at
  present = rw row_is at m.still

  abbrev pub turn : Turn T X.level v
  turn =
      record {
        ts₀ = row_in b e v p;
        from₀ = start_at e v p;
        to = to;
        first = first;
        tagged = ready_tagged m.ready;
        fits = X.fits;
        t = m.t;
        ts = Rest;
        at = m.at;
        next = m.next;
        buf = m.buf;
        within = m.within;
        rows = present.0;
        same = m.same;
      }

  put_there : m.t < count_in b
  put_there = put_type X m.i m.t m.one m.is m.there

  pub put_known : Known b m.x
  put_known = rw m.entry (known b index m.ready.listed m.t put_there)

  is_record : record_in b m.x ≡ T m.t
  is_record = rw m.entry (known_record b index m.ready.listed m.t put_there)

  ok : Accepted T X.level m.t v m.at
  ok = now_accepted turn

  pub put_near : (m.at + 3 ≤ length v) × (m.at + 3 < 20000)
  put_near = let z = stands v m.at m.within ok.shaped in let a = z.onward in let c = z.within in let l = X.little in (
    omega arith,
    omega
        arith,
  )

  kind_is : (octet_of m.x.kind) ≡ get_or v (m.at + 2) 0
  kind_is = at_kind b m.x put_known v m.at ok.shaped m.t is_record ok.agreed

  pub put_own : 0 < own_end (octet_of m.x.kind) v (m.at + 3)
  put_own = at_shaped b m.x put_known v m.at ok.shaped m.t is_record ok.agreed

  simple_is : (w : Bool) → m.x.simple ≡ w → not (constructed (T m.t).body) ≡ w
  simple_is w f = ap (λ (r : Record). not (constructed r.body)) (sym is_record) ∙ sym put_known.entered.simple ∙ f

  -- the size of its contents
  abbrev pub Sized : ℕ → Type 0
  Sized size = SizeIs turn size

  module _ (f : m.x.simple ≡ true) where
    primitive : constructed (T m.t).body ≡ false
    primitive = not-true _ (simple_is true f)

    pub put_simple : constructed_of (octet_of m.x.kind) ≡ false
    put_simple = rw kind_is (leaf_kind_lem (T m.t).body v m.at ok.shaped ok.agreed primitive)

    same_leaf : encode (leaf_of (octet_of m.x.kind) v (m.at + 3)) ≡ encode (leaf_of (get_or v (m.at + 2) 0) v (m.at + 3))
    same_leaf = ap (λ (j : ℕ). encode (leaf_of j v (m.at + 3))) kind_is

    pub sized_leaf : (size r : ℕ) → r ≡ length (encode (leaf_of (octet_of m.x.kind) v (m.at + 3))) → size ≡ r → Sized size
    sized_leaf size r er es = leaf_size_lem turn primitive size (es ∙ er ∙ ap length same_leaf)

  module _ (f : m.x.simple ≡ false) where
    built : constructed (T m.t).body ≡ true
    built = not-false _ (simple_is false f)

    pub sized_built : (size : ℕ) → size ≡ note_at notes m.at → Sized size
    sized_built size es = built_size turn built size notes (first_noted T v X.level m.t Rest m.at notes present.1) es

  module _ (size : ℕ) (Z : Sized size) where
    front_is : heads (constructed (record_in b m.x).body) (record_in b m.x).tags size ≡ heads (constructed (T m.t).body) (T m.t).tags size
    front_is = ap (λ (r : Record). heads (constructed r.body) r.tags size) is_record

    pub put_capped : size < 8194
    put_capped = size_small turn size Z

    pub put_front : m.next + length (heads (constructed (record_in b m.x).body) (record_in b m.x).tags size) ≤ length m.buf
    put_front = rw front_is (front_fits turn size Z)

-- the octets in front of it are put
pub record Fronted {b index v notes : List ℕ} {e : Descriptor} {p to : ℕ} {first : List ℕ} {X : Puts b v notes e p to first} (m : Member index X) : Type 0 where
  pub size : ℕ
  pub sized : Sized m size
  pub next : ℕ
  pub buf : List ℕ
  pub nexts : next ≡ m.next + length (heads (constructed (record_in b m.x).body) (record_in b m.x).tags size)
  pub bufs : buf ≡ sets m.buf m.next (heads (constructed (record_in b m.x).body) (record_in b m.x).tags size)
  pub same : length buf ≡ length m.buf

-- as the code finds it: w is the entry of whose tags they are
abbrev pub fronted : {b index v notes : List ℕ} {e w : Descriptor} {p to : ℕ} {first : List ℕ} {X : Puts b v notes e p to first} (m : Member index X) (size : ℕ)
    → Sized m size → m.x ≡ w → (next : ℕ) (buf : List ℕ)
    → next ≡ m.next + length (heads (constructed (record_in b w).body) (record_in b w).tags size)
    → buf ≡ sets m.buf m.next (heads (constructed (record_in b w).body) (record_in b w).tags size)
    → length buf ≡ length m.buf
    → Fronted m
fronted m size z ew next buf en eb s =
    record { size = size; sized = z; next = next; buf = buf; nexts = rw (← ew) at en; bufs = rw (← ew) at eb; same = s }

module _ {b index v notes : List ℕ} {e : Descriptor} {p to : ℕ} {first : List ℕ} {X : Puts b v notes e p to first} {m : Member index X} (q : Fronted m) where
  next_is : q.next ≡ m.next + length (heads (constructed (table_in b m.t).body) (table_in b m.t).tags q.size)
  next_is = q.nexts ∙ ap (λ (l : List ℕ). m.next + length l) (front_is m q.size q.sized)

  buf_is : q.buf ≡ sets m.buf m.next (heads (constructed (table_in b m.t).body) (table_in b m.t).tags q.size)
  buf_is = q.bufs ∙ ap (sets m.buf m.next) (front_is m q.size q.sized)

  -- what is left when it is put
  abbrev pub After : ℕ → ℕ → List ℕ → Type 0
  After u next last = (m.at ≤ u) × (u ≤ length v) × Still X (m.i + 1) u next last

  after : (u next : ℕ) (last : List ℕ) → u ≡ ends_at (table_in b) v X.level m.t m.at → Turned (turn m) u next last → After u next last
  after u next last eu z = (z.0, z.1, (z.2, rest_noted (table_in b) v X.level m.t (Rest m) m.at notes (present m).1 u eu))

  module _ (f : m.x.simple ≡ true) where
    pub put_room : (q.size ≡ length (encode (leaf_of (octet_of m.x.kind) v (m.at + 3)))) × (q.next + q.size ≤ length q.buf)
    put_room =
        let z = leaf_fits (turn m) q.size q.sized q.next q.buf next_is buf_is q.same (primitive m f) in
        (z.0 ∙ ap length (sym (same_leaf m f)), z.1)

    pub put_leaf : (u : ℕ) (last : List ℕ) → u ≡ own_end (octet_of m.x.kind) v (m.at + 3) → last ≡ sets q.buf q.next (encode (leaf_of (octet_of m.x.kind) v (m.at + 3)))
        → After u (q.next + q.size) last
    put_leaf u last eu el =
        let d : u ≡ end_at v m.at = eu ∙ ap (λ (j : ℕ). own_end j v (m.at + 3)) (kind_is m) ∙ sym (own_end_is v m.at (ok m).shaped) in
        after u (q.next + q.size) last (d ∙ sym (leaf_over (turn m) (primitive m f)))
        (leaf_turn (turn m) q.size q.sized q.next q.buf next_is buf_is q.same (primitive m f) u last d (el
        ∙ ap (sets q.buf q.next) (same_leaf m f)))

  module _ (f : m.x.simple ≡ false) where
    big : constructed_of (get_or v (m.at + 2) 0) ≡ true
    big = sym (constructed_node (table_in b m.t).body v m.at (ok m).shaped (ok m).agreed) ∙ built m f

    end_in : end_at v m.at ≤ length v
    end_in = (stands v m.at m.within (ok m).shaped).within

    start_is : start_at m.x v (m.at + 3) ≡ end_at v m.at
    start_is = at_start b m.x (put_known m) v m.at (ok m).shaped m.t (is_record m) (ok m).agreed m.octets big end_in m.ready.passes (put_there m)

    under_is : row_in b m.x v (m.at + 3) ≡ row_at (table_in b) v m.t m.at
    under_is = at_row b m.x (put_known m) v m.at (ok m).shaped m.t (is_record m) (ok m).agreed m.octets big end_in m.ready.passes (put_there m)

    pub put_under : Puts b v notes m.x (m.at + 3) q.next q.buf
    put_under =
        record {
          level = X.level - 1;
          little = X.little;
          stands = at_stands b m.x (put_known m) v m.at (ok m).shaped m.t (is_record m) (ok m).agreed m.octets big end_in m.ready.passes (put_there m);
          fits = rw (under_is, start_is) (built_fits (turn m) q.size q.sized q.next q.buf next_is buf_is q.same (built m f));
          noted = rw (under_is, start_is) (value_below (table_in b) v X.level m.t m.at m.within (ok m).level notes
              (first_noted (table_in b) v X.level m.t (Rest m) m.at notes (present m).1));
        }

    pub put_built : (y : Placed) (last : List ℕ) → PutBy put_under last y → After y.end y.to last
    unfolding put_under
    put_built y last Q =
        let W = rw (under_is, start_is) at Q in
        after y.end y.to last (W.ends ∙ sym (built_over (turn m) (built m f)))
        (built_turn (turn m) q.size q.sized q.next q.buf next_is buf_is q.same (built m f) y last W)
