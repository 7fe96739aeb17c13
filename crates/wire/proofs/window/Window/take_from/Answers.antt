use Rattle.std.proofs.Common.{◌≡◌, ℕ, ◌+◌, ◌-◌, ◌≤◌, ◌++◌, List, length, take, drop, sym, ap, ◌∙◌, arith}
use Rattle.std.proofs.Math.Seq.{take-append-add}
use Rattle.std.proofs.lemmas.List.{drop-take, length-drop, length-take-le}
use Rattle.wire.proofs.window.Window.take_from.Goals as goal

-- the contents of a buffer up to the end of the piece, after bytes were written before it
joined_up : (now kept room : List ℕ) (from count k : ℕ) → length kept ≡ k → k ≤ from → drop (from - k) now ≡ kept ++ drop from room → drop (from - k) (take (from + count) now) ≡ kept ++ take count (drop from room)
joined_up now kept room from count k size before joined =
    let all : (from - k) + (length kept + count) ≡ from + count = omega (arith, size, before) in
    ap (λ (n : ℕ). drop (from - k) (take n now)) (sym all)
    ∙ (drop-take (from - k) (length kept + count) now
    ∙ (ap (take (length kept + count)) joined
    ∙ take-append-add kept (drop from room) count))

pub returns-clause-ok : goal.returns-clause-ok
returns-clause-ok c =
    let s = c.self.inside in
    let k = s.end - s.start in
    let kept = drop s.start (take s.end s.buffer.items) in
    let room = c.args.room.now.items in
    let size : length kept ≡ k = omega (arith, c.self.invariant, length-drop s.start (take s.end s.buffer.items), length-take-le s.end s.buffer.items c.self.invariant.1) in
    let joined : drop (c.args.from - k) c.exchange.new.buffer.items ≡ kept ++ drop c.args.from room = c.exchange.ensures.joined ∙ ap (λ (front : List ℕ). drop s.start front ++ drop c.args.from room) c.lengthen.ensures.front in
    joined_up c.exchange.new.buffer.items kept room c.args.from c.args.count k size c.if-kept-from.false joined
    ∙ ap (λ (bytes : List ℕ). bytes ++ take c.args.count (drop c.args.from room)) c.self.view_is
