use Rattle.std.proofs.Common.{◌≡◌, ◌≤◌, ap, sym, ◌∙◌, arith}
use Rattle.handles.specs.Counts.{limit}
use Rattle.handles.proofs.Counting.{raises}
use Rattle.handles.proofs.counts.Counts.raise.Goals as goal

pub compare_exchange-found-requires : goal.compare_exchange-found-requires
compare_exchange-found-requires c =
    let self = c.args.self.now in
    let most : c.args.most ≡ limit c.args.word self.table.shared.key = c.requires.most ∙ ap (λ l. limit c.args.word l) (sym self.key) in
    let within : c.in-Some.after ≤ limit c.args.word self.table.shared.key = omega (arith, most, c.if-after-most.false) in
    (c.loop.invariant.0 ∙ c.requires.table, omega (arith, self.words, c.requires.word), raises self.table.shared.key self.table.shared.table_id.slots c.args.word c.loop.seat.id c.loop.seen c.in-Some.after c.loop.seat.me c.requires.word (omega (arith, c.in-Some.ensures)) within)
