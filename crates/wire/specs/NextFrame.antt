-- What the bytes of a stream begin with.
use Rattle.std.specs.Prelude.{◌≡◌, ℕ, ◌≤◌, List, length}
use Rattle.wire.specs.declared.standing.NextFrame.{NextFrame}
use Rattle.wire.specs.declared.standing.NextFrame.TheVariants.{Partial, Bad, Whole}
use Rattle.wire.specs.Stream.{len_in, IsLawfulLength, BeginsBadly, IsPartial}

pub record IsWhole (kept : List ℕ) (len : ℕ) : Type 0 where
  pub is : len ≡ len_in kept
  pub lawful : IsLawfulLength len
  pub there : len ≤ length kept

abbrev pub Stands : List ℕ → NextFrame → Type 0
Stands kept Partial = IsPartial kept
Stands kept (Bad len) = BeginsBadly kept len
Stands kept (Whole len) = IsWhole kept len
