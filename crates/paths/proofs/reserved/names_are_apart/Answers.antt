use Rattle.std.proofs.Common.{ap, List, ℕ, ◌++◌}
use Rattle.std.specs.Prelude.{codes}
use Rattle.paths.specs.Hidden.{hex_digits}
use Rattle.paths.proofs.Digits.{apart, modulo}
use Rattle.paths.proofs.reserved.names_are_apart.Goals as goal

pub returns-clause-apart : goal.returns-clause-apart
returns-clause-apart c = apart

pub returns-clause-modulo : goal.returns-clause-modulo
returns-clause-modulo c = λ number counter. ap (λ (ds : List ℕ). codes ".fuse_hidden" ++ (ds ++ hex_digits 8 counter)) (modulo number)
