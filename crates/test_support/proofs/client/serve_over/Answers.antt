use Rattle.engine.specs.AloneLemmas.{opened_idle}
use Rattle.table_steps.specs.Kept.{world_of}
use Rattle.test_support.proofs.client.serve_over.Goals as goal

pub serve-end-requires : goal.serve-end-requires
serve-end-requires g c = record { fresh = opened_idle _ (world_of c.in_ok-table.table) c.in_ok-table.ensures.opened }
