use Rattle.std.proofs.Common.{◌≡◌, arith}
use Rattle.std.proofs.lemmas.Bool.{false≢true}
use Rattle.table_files.specs.OpenEntry.{files_of}
use Rattle.table_files.specs.Handles.{of_node}
use Rattle.collections.proofs.Once.{sum_once}
use Rattle.table_footprints.proofs.closing.is_last.Goals as goal

pub returns-then-openings-ne1 : goal.returns-then-openings-ne1
returns-then-openings-ne1 c =
    let other : c.openings.result ≡ 1 → ⊥ = λ e. omega (arith, e, c.if-openings-ne1.true) in (
      λ bad. absurd (false≢true bad),
      λ last. absurd (other (sum_once (files_of c.args.files.now).at (of_node c.args.number) c.openings.result 1 c.openings.ensures last.one)),
    )
