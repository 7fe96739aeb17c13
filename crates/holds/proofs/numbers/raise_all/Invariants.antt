use Rattle.std.proofs.Common.{◌+◌, ◌≡◌, ◌≤◌, take}
use Rattle.paths.specs.Prefixes.{Names}
use Rattle.collections.specs.Living.{live, places}
use Rattle.holds.specs.Numbers.{AreNumbers, counted_in, holders_on}
use Rattle.holds.proofs.numbers.raise_all.Given as goal

abbrev pub invariant-loop-i : goal.invariant-loop-i
invariant-loop-i l = record {
  law : AreNumbers l.numbers;
  shared : (p : Names) → (holders_on l.numbers p).shared ≡ (holders_on l.fn.numbers p).shared + counted_in (take l.i l.paths) p l.one.shared;
  exclusive : (p : Names) → (holders_on l.numbers p).exclusive ≡ (holders_on l.fn.numbers p).exclusive + counted_in (take l.i l.paths) p l.one.exclusive;
  live : live l.numbers.by_path ≤ live l.fn.numbers.by_path + l.i;
  places : places l.fn.numbers.by_path ≤ places l.numbers.by_path;
}
