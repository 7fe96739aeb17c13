use Rattle.std.proofs.Common.{◌≡◌, ◌∙◌, Bool, true, ap, sym, codes, [], Ok, subst}
use Rattle.paths.specs.Prefixes.{Names}
use Rattle.backing.specs.Memory.{PutsDir, PutsFile, Memory, memory_tree}
use Rattle.mirrord_sessions.specs.Samples.{tree_of}
use Rattle.mirrord_sessions.proofs.Sampling.{put_all, empty_is_bare}
use Rattle.mirrord_sessions.proofs.samples.new_tree.Goals as goal

pub returns : goal.returns
returns c =
    let start = c.new-tree.result in
    let one = c.put_file.new.self in
    let two = c.put_dir.new.self in
    let three = c.put_file-2.new.self in
    let first = subst (λ (p : Names). PutsFile (memory_tree start) p (codes "abc") (Ok tt) (memory_tree one)) c.in_ok-a.ensures c.in-Ok.ensures.puts in
    let second = subst (λ (p : Names). PutsDir (memory_tree one) p (Ok tt) (memory_tree two)) c.in_ok-d.ensures c.in-Ok-put_dir.ensures.puts in
    let third = subst (λ (p : Names). PutsFile (memory_tree two) p [] (Ok tt) (memory_tree three)) c.in_ok-e.ensures c.in-Ok-put_file.ensures.puts in
    let new = c.new-tree.ensures in
    let none = λ (path : Names). ap (λ (m : Memory). memory_tree m path) new ∙ empty_is_bare path in
    let sampled : c.args.sample ≡ true = cc in
    let same = c.in-Ok.ensures.same in
    let same_two = c.in-Ok-put_dir.ensures.same in
    let same_three = c.in-Ok-put_file.ensures.same in
    record {
      stands = λ path. put_all (memory_tree start) (memory_tree one) (memory_tree two) (memory_tree three) none first second third path ∙ ap (λ (b : Bool). tree_of b path) (sym sampled);
      made = same_three.made ∙ (same_two.made ∙ (same.made ∙ ap (λ (m : Memory). m.made) new));
      plans = same_three.plans ∙ (same_two.plans ∙ (same.plans ∙ ap (λ (m : Memory). m.plans) new));
      failed = same_three.failed ∙ (same_two.failed ∙ (same.failed ∙ ap (λ (m : Memory). m.failed) new));
    }
