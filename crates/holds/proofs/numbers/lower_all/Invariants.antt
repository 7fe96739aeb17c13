use Rattle.std.proofs.Common.{◌+◌, ◌≡◌, take}
use Rattle.paths.specs.Prefixes.{Names}
use Rattle.holds.specs.Numbers.{AreNumbers, counted_in, holders_on}
use Rattle.holds.proofs.numbers.lower_all.Given as goal

abbrev pub invariant-loop-i : goal.invariant-loop-i
invariant-loop-i l = record {
  law : AreNumbers l.numbers;
  shared : (p : Names) → (holders_on l.numbers p).shared + counted_in (take l.i l.paths) p l.one.shared ≡ (holders_on l.fn.numbers p).shared;
  exclusive : (p : Names) → (holders_on l.numbers p).exclusive + counted_in (take l.i l.paths) p l.one.exclusive ≡ (holders_on l.fn.numbers p).exclusive;
}
