use Rattle.std.proofs.Common.{◌≡◌, ◌+◌, ◌==◌, if◌then◌else◌, refl, sym, ap, ◌∙◌, subst}
use Rattle.collections.specs.declared.children.Kin.{Kin}
use Rattle.collections.specs.Links.{IsThere, kin_at}
use Rattle.collections.proofs.Linking.{linked_with}
use Rattle.collections.proofs.Written.{there_as, there_real, there_with}
use Rattle.collections.proofs.children.add_child.Goals as goal

pub returns-clause-lawful : goal.returns-clause-lawful
returns-clause-lawful g c parents law fresh =
    let s = c.args.nodes.now in
    let kin = kin_at s in
    let child = c.args.child in
    let p = c.args.parent in
    let first : c.kin_in-first.result.newest ≡ (kin p).newest = ap (λ (k : Kin). k.newest) c.kin_in-first.ensures in
    let one = c.set_older.ensures in
    let two = c.set_newer.ensures in
    let three = c.set_newest.ensures in
    let values = two.values ∙ one.values in
    let link = linked_with parents kin (kin_at c.set_newest.new.nodes) law.rank child p law.linked fresh (there_real s child c.requires.there)
    (λ some m.
    let there : IsThere s (kin p).newest = law.there (kin p).newest p (law.linked.newest (kin p).newest p refl some).0 in
    let there' = subst (IsThere c.set_older.new.nodes) (sym first) (there_as s c.set_older.new.nodes one.values (kin p).newest there) in
    three.newer m ∙ (two.newer there' m ∙ (λ i. if first i == m then child else one.newer m i)))
    (λ none m. three.newer m ∙ (two.none (first ∙ none) m ∙ one.newer m))
    (λ m. three.older m ∙ (two.older m ∙ (one.older c.requires.there m ∙ (λ i. if child == m then first i else (kin m).older))))
    (λ m. three.newest (there_as s c.set_newer.new.nodes values p c.requires.above) m ∙ (λ i. if p == m then child else (two.newest m ∙ one.newest m) i)) in
    record {
      there = there_with s c.set_newest.new.nodes (three.values ∙ values) parents child _ c.requires.there law.there;
      rank = λ m. if child == m then 0 else law.rank m + 1;
      linked = link;
    }
