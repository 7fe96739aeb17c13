-- The law of a table with only the root and no request in flight.
use Rattle.std.proofs.Common.{ℕ, ◌≡◌, ◌∙◌, false, List, [], ap, rules, sym}
use Rattle.std.proofs.lemmas.Option.{none-some}
use Rattle.std.specs.Prelude.{option_map}
use Rattle.ledger.specs.Periods.{Periods, unclosed}
use Rattle.table_steps.specs.Upheld.{IsUpheld}
use Rattle.table_requests.specs.RequestMaps.{RequestMaps, no_requests}
use Rattle.table_requests.specs.RequestMaps as maps
use Rattle.tree.specs.Places.{IsTree, Lookup, no_nodes, root_node, with_node}
use Rattle.table_steps.specs.Kept.{flight_of, flights_in}
use Rattle.table_steps.specs.World.{AreHeld, IsAtWork, RequestInFlight, Work}

pub root_lawful : (at : Lookup) (ps : Periods) → at ≡ with_node no_nodes 1 root_node → IsTree at → ps ≡ unclosed [] → IsUpheld at ps (λ _. false)
root_lawful at ps nodes tree none = search rules

none_at_work : (all : RequestMaps) → all.at ≡ no_requests → (id : ℕ) (f : RequestInFlight) (work : Work) → IsAtWork (flights_in all) id f work → ⊥
none_at_work all none id f work h = none-some f (sym (ap (λ (at : maps.RequestsInFlight). option_map flight_of (at id)) none) ∙ h.here)

pub none_held : (at : Lookup) (all : RequestMaps) → all.at ≡ no_requests → AreHeld at (flights_in all)
none_held at all none = record {
  apart = λ j k f g v work a b other conflict. none_at_work all none j f v a;
  known = λ id f work h. absurd (none_at_work all none id f work h);
}
