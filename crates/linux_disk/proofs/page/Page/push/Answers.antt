use Rattle.std.proofs.Common.{◌≤◌, ◌++◌, List, ℕ, length, refl, ap, ◌∙◌, arith}
use Rattle.linux_disk.proofs.PageLemmas.{pushed_text}
use Rattle.linux_disk.proofs.page.Page.push.Goals as goal

pub returns : goal.returns
returns c = λ _.
    let within : c.self.inside.len ≤ length c.self.inside.bytes = omega (arith, c.self.told, c.self.invariant.fits) in
    pushed_text c.self.inside.bytes c.args.part.now c.copy_from_slice.new.self c.self.inside.len _ _ _ c.copy_from_slice.ensures.after refl within
    ∙ ap (λ (xs : List ℕ). xs ++ c.args.part.now) c.self.view_is
