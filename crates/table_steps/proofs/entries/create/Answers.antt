use Rattle.std.proofs.Common.{ℕ, ◌≡◌, Some, List, ◌∷◌, ◌++◌, [], ap, ◌∙◌, subst, sym}
use Rattle.ledger.specs.Periods.{Periods, posted}
use Rattle.ledger.specs.declared.postings.Posting.TheVariants.{Entry}
use Rattle.ledger.specs.Sums.{births_of}
use Rattle.tree.specs.declared.nodes.Node.{Node}
use Rattle.tree.specs.Places.{Lookup, at_in, born_node, with_node}
use Rattle.tree.proofs.LookupLemmas.{with_same}
use Rattle.table_steps.specs.Keeping.{kept_by}
use Rattle.table_steps.proofs.Entering.{alive_written, law_born}
use Rattle.table_steps.proofs.entries.create.Goals as goal

pub set_count-requires : goal.set_count-requires
set_count-requires c =
    let g = c.births-generation.result in
    let key = c.args.keys.key in
    let nodes = subst (λ (k : ℕ). at_in c.birth-number.new.self ≡ with_node (at_in c.args.tree.now) k (born_node k g key.parent key.name)) (sym c.birth-number.ensures.number) c.birth-number.ensures.births.nodes in
    alive_written (at_in c.args.tree.now) (at_in c.birth-number.new.self) c.birth-number.result (born_node c.birth-number.result g key.parent key.name) nodes

pub returns-clause-law : goal.returns-clause-law
returns-clause-law c =
    let n = c.birth-number.result in
    let g = c.births-generation.result in
    let key = c.args.keys.key in
    let at = at_in c.args.tree.now in
    let y : Node = born_node n g key.parent key.name in
    let nodes : at_in c.birth-number.new.self ≡ with_node at n y =
    subst (λ (k : ℕ). at_in c.birth-number.new.self ≡ with_node at k (born_node k g key.parent key.name)) (sym c.birth-number.ensures.number) c.birth-number.ensures.births.nodes in
    let born : g ≡ births_of n c.args.ledger.now.made =
    c.births-generation.ensures ∙ ap (λ (k : ℕ). births_of k c.args.ledger.now.made) (c.next_free-next.ensures.next ∙ sym c.birth-number.ensures.number) in
    let stood : at_in c.birth-number.new.self n ≡ Some y = ap (λ (a : Lookup). a n) nodes ∙ with_same at n y in
    law_born at (at_in c.birth-number.new.self) (at_in c.set_count.new.self) c.args.ledger.now.made c.post-2.new.self.made (kept_by c.args._flights.now c.args._files.now)
    n g key.parent key.name c.requires.law (ap at c.birth-number.ensures.number ∙ c.next_free-next.ensures.free) born nodes (c.set_count.ensures.writes y stood).nodes
    (c.post-2.ensures.made ∙ ap (λ (ps : Periods). posted ps (Entry n g)) c.post.ensures.made) c.birth-number.ensures.tree c.set_count.ensures.tree
