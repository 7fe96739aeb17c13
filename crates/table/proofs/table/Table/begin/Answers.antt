use Rattle.std.proofs.Common.{rules}
use Rattle.table_steps.proofs.StillUndisturbed.{begin_calm}
use Rattle.table.proofs.table.Table.begin.Goals as goal

pub attest-requires : goal.attest-requires
attest-requires g c =
    record {
      kept = c.begin-begin.ensures.kept;
      undisturbed = begin_calm c.self.inside.state c.begin-begin.new.self c.self.invariant.0.kept c.begin-begin.ensures.kept c.self.invariant.0.undisturbed c.args.unique c.args.want c.begin-begin.result c.begin-begin.ensures.begins;
    }

pub invariant_of-self : goal.invariant_of-self
invariant_of-self g c = (
  record {
    kept = c.begin-begin.ensures.kept;
    undisturbed = begin_calm c.self.inside.state c.begin-begin.new.self c.self.invariant.0.kept c.begin-begin.ensures.kept c.self.invariant.0.undisturbed c.args.unique c.args.want c.begin-begin.result c.begin-begin.ensures.begins;
  },
  search rules,
)
