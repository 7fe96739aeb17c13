use Rattle.std.proofs.Common.{rules, ◌≡◌, ℕ, ◌+◌, ◌-◌, ◌++◌, List, length, take, drop, sym, ap, ◌∙◌, arith}
use Rattle.std.proofs.lemmas.List.{drop-take, length-drop, length-take-le, places, with_items_is}
use Rattle.std.specs.Vec.{with_items}
use Rattle.wire.proofs.window.exchange.Goals as goal

pub returns-clause-joined : goal.returns-clause-joined
returns-clause-joined c =
    let n = c.args.end - c.args.start in
    let from = c.args.from in
    let buffer = c.args.buffer.now.items in
    let lent = c.deref.result.now in
    let room = c.write_before.new.room in
    let bytes = take n (drop c.args.start lent) in
    let long : length lent ≡ length buffer = ap length c.deref.ensures.value in
    let size : length bytes ≡ n = length-take-le n (drop c.args.start lent) (omega (arith, long, length-drop c.args.start lent, c.requires.within, c.requires.order)) in
    let all : c.args.start + n ≡ c.args.end = omega (arith, c.requires.order) in
    let value : bytes ≡ drop c.args.start (take c.args.end buffer) = ap (λ (b : List ℕ). take n (drop c.args.start b)) c.deref.ensures.value ∙ (sym (drop-take c.args.start n buffer) ∙ ap (λ (k : ℕ). drop c.args.start (take k buffer)) all) in
    let whole : (with_items c.args.room.now room).items ≡ room = with_items_is c.args.room.now room (search (rules, places)) in
    let now : c.swap.new.x.items ≡ room = ap (λ v. v.items) c.swap.ensures.x_after ∙ whole in
    let behind : drop from c.deref_mut.result.now ≡ drop from c.args.room.now.items = ap (drop from) c.deref_mut.ensures.value in
    ap (drop (from - n)) now ∙ (ap (λ (k : ℕ). drop (from - k) room) (sym size) ∙ (c.write_before.ensures.written ∙ (ap (λ (b : List ℕ). b ++ drop from c.deref_mut.result.now) value ∙ ap (λ (b : List ℕ). drop c.args.start (take c.args.end buffer) ++ b) behind)))
