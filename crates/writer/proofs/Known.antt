-- The records of an index that lists their descriptors, and what a table that passes promises of their tags.
-- Assumes nothing.
use mathlib.Core.Bool.{true}
use mathlib.Core.List.{List}
use mathlib.Core.Path.{◌≡◌, ap}
use Prim.Native.Nat.{ℕ, ◌-◌, ◌*◌, ◌<◌}
use borrow.Author.Tests.{ltb-true, ltb-false}
use lib.Dec.{ltb}
use lib.ListN.{get_or}
use Rattle.octets.proofs.Tests.{test}
use Rattle.table.specs.Syntax.{Record, Table, is_choice}
use Rattle.table.specs.Octets.{record_shaped}
use Rattle.table.specs.Reading.{tags_at, table_in, count_in}
use Rattle.table.specs.Rules.{missing}
use Rattle.table.specs.Passes.{Passes}
use Rattle.records.specs.Entries.{tag_count, Entered}
use Rattle.records.specs.Descriptors.{entry_of, described, Listed}
use Rattle.records.specs.declared.descriptor.Descriptor.{Descriptor}
use Rattle.records.proofs.Promises.{entered_tags}
use Rattle.checker.proofs.Ready.{Ready}
use Rattle.writer.specs.Known.{record_in, Known}
use Rattle.writer.proofs.Frames.{Tagged}

module _ (b : List ℕ) (e : Descriptor) (r : Record) (x : Entered b (entry_of e) r) where
  record_is : record_in b e ≡ r
  record_is =
      let t : tags_at b (e.own - 3 * tag_count (entry_of e)) (tag_count (entry_of e)) ≡ r.tags = rw (entered_tags x) x.tags in
      λ i. record { tags = t i; body = x.body i }

  known_by : record_shaped r ≡ true → Known b e
  known_by s = record { entered = rw record_is x; shaped = rw record_is s }

-- the entry of record t
module _ (b index : List ℕ) (F : Listed b index (count_in b)) (t : ℕ) (h : t < count_in b) where
  pub known : Known b (described (get_or index t 0))
  known = known_by b (described (get_or index t 0)) (table_in b t) (F.describes t h).entered (F.shaped t h)

  pub known_record : record_in b (described (get_or index t 0)) ≡ table_in b t
  known_record = record_is b (described (get_or index t 0)) (table_in b t) (F.describes t h).entered

-- what the check of a table promises of tags
passes_tagged : (b : List ℕ) (T : Table) (n : ℕ) → Passes b T n → Tagged T
unfolding is_choice
passes_tagged b T n p t e =
    test (is_choice (T t).body) (λ f. f) λ f.
    test (ltb t n) (λ h. absurd (p.tagged t (ltb-true t n h) (missing e f))) λ h. ap (λ (r : Record). is_choice r.body) (p.no_more t (ltb-false t n h))

pub ready_tagged : {b index : List ℕ} → Ready b index → Tagged (table_in b)
ready_tagged {b} R = passes_tagged b (table_in b) (count_in b) R.passes
