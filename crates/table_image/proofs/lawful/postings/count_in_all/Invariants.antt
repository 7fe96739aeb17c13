use Rattle.std.proofs.Common.{◌+◌, ◌-◌, ◌*◌, ◌^◌, ◌≡◌, ◌≤◌, take}
use Rattle.table_image.specs.Parts.{entered_in_all, given_in_all}
use Rattle.table_image.proofs.lawful.postings.count_in_all.Given as goal

abbrev pub invariant-loop-posting : goal.invariant-loop-posting
invariant-loop-posting l = record {
  rest : l.left + given_in_all (take l.posting-index l.postings) ≡ entered_in_all (take l.posting-index l.postings);
  small : l.left ≤ l.posting-index * (2 ^ 64 - 1);
}
