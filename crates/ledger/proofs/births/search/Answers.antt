use Rattle.std.proofs.Common.{rules}
use Rattle.std.proofs.lemmas.List.Sorted.{answers_always}
use Rattle.ledger.proofs.Rising.{place_found}
use Rattle.ledger.proofs.births.search.Goals as goal

-- the closure returns an entry's number
pub returns : goal.returns
returns c =
    let found = c.binary_search_by_key.ensures in
    let by_number = found.position (λ b. b.number) (answers_always _ _ _ (λ f a r g called. search rules)) in
    place_found c.args.number c.args.births.now c.binary_search_by_key.result c.requires found.bound by_number
