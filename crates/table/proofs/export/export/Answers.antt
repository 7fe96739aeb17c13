use Rattle.std.proofs.Common.{◌∙◌}
use Rattle.table.proofs.Exporting.{exports, exports_lawful}
use Rattle.table.proofs.export.export.Goals as goal

pub returns-clause-exports : goal.returns-clause-exports
returns-clause-exports c =
    rw (c.from.ensures, c.from-2.ensures, c.from-3.ensures, c.from-4.ensures, c.from-5.ensures, c.from-6.ensures, c.in_ok-files.ensures.items)
    (exports c.args.state.now c.requires c.in_ok-nodes.nodes.items c.in_ok-births.births.items c.closed.result c.in_ok-postings.postings.items c.in_ok-records.records.items c.as_slice.result.now c.in_ok-nodes.ensures.distinct c.in_ok-nodes.ensures.nodes (c.in_ok-births.ensures.items ∙ c.closed_births.ensures) c.closed.ensures (c.in_ok-postings.ensures.items ∙ c.postings.ensures.made)
    c.as_slice.ensures.at c.as_slice.ensures.pinned c.as_slice.ensures.many c.as_slice.ensures.apart c.in_ok-records.ensures c.in_ok-holds.holds.items c.in_ok-holds.ensures
    c.as_slice-2.result.now c.as_slice-2.ensures.at c.as_slice-2.ensures.opened c.as_slice-2.ensures.rising c.last.result c.last.ensures)

pub returns-clause-lawful : goal.returns-clause-lawful
returns-clause-lawful c =
    rw (c.from.ensures, c.from-2.ensures, c.from-3.ensures, c.from-4.ensures, c.from-5.ensures, c.from-6.ensures, c.in_ok-files.ensures.items)
    (exports_lawful c.args.state.now c.requires c.in_ok-nodes.nodes.items c.in_ok-births.births.items c.closed.result c.in_ok-postings.postings.items c.in_ok-records.records.items c.as_slice.result.now c.in_ok-nodes.ensures.distinct c.in_ok-nodes.ensures.nodes (c.in_ok-births.ensures.items ∙ c.closed_births.ensures) c.closed.ensures (c.in_ok-postings.ensures.items ∙ c.postings.ensures.made)
    c.as_slice.ensures.at c.as_slice.ensures.pinned c.as_slice.ensures.many c.as_slice.ensures.apart c.in_ok-records.ensures c.in_ok-holds.holds.items c.in_ok-holds.ensures
    c.as_slice-2.result.now c.as_slice-2.ensures.at c.as_slice-2.ensures.opened c.as_slice-2.ensures.rising c.last.result c.last.ensures)
