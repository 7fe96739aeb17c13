use Rattle.tree.specs.Listed.{node_at}
use Rattle.tree.proofs.Stepping.{IsStepped}
use Rattle.table_image.proofs.lawful.nodes.leads_to_root.Given as goal

abbrev pub invariant-loop-step : goal.invariant-loop-step
invariant-loop-step l = IsStepped (node_at l.nodes) 1 l.number l.current l._step
