use Rattle.std.proofs.Common.{◌≡◌, length, take, arith, ap, ◌∙◌}
use Rattle.std.proofs.Math.Seq.{take-length}
use Rattle.handles.specs.Pages.{bytes_of}
use Rattle.handles.proofs.paging.page_len.Goals as goal

pub returns : goal.returns
returns c =
    let all : c.loop-entry.entry-index ≡ length c.args.entries.now = omega arith in
    let whole : c.loop-entry.sum ≡ bytes_of c.args.plus c.args.entries.now = c.loop-entry.invariant.sum ∙ ap (bytes_of c.args.plus) (ap (λ k. take k c.args.entries.now) all ∙ take-length c.args.entries.now) in
    (omega (arith, whole, c.loop-entry.invariant.small), whole)
