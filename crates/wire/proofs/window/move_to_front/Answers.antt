use Rattle.std.proofs.Common.{ℕ, ◌≡◌, ◌+◌, ◌-◌, ◌≤◌, ◌++◌, length, take, drop, sym, ap, ◌∙◌, subst, append_assoc, arith}
use Rattle.std.proofs.lemmas.List.{drop-take, length-take-le}
use Rattle.std.proofs.Math.Seq.{take-append_seam}
use Rattle.wire.proofs.window.move_to_front.Goals as goal

pub returns-clause-moved : goal.returns-clause-moved
returns-clause-moved c =
    let n = c.args.end - c.args.start in
    let moved = c.copy_from_slice.new.self in
    let left = drop n c.split_at_mut-front.result.0.now in
    let rest = left ++ c.split_at_mut-front.result.1.now in
    let fits : n ≤ length c.split_at_mut-front.result.0.now = omega (arith, c.split_at_mut-front.ensures.front_len) in
    let size : length moved ≡ n = c.copy_from_slice.ensures.len ∙ length-take-le n c.split_at_mut-front.result.0.now fits in
    let seam : take n (moved ++ rest) ≡ moved = subst (λ (k : ℕ). take k (moved ++ rest) ≡ moved) size (take-append_seam {A = ℕ} moved rest) in
    let back : moved ≡ take n (drop c.args.start c.args.buffer.now) = c.copy_from_slice.ensures.after ∙ ap (take n) c.split_at_mut-front.ensures.back in
    let all : c.args.start + n ≡ c.args.end = omega arith in
    let kept : drop c.args.start (take c.args.end c.args.buffer.now) ≡ take n (drop c.args.start c.args.buffer.now) = subst (λ (k : ℕ). drop c.args.start (take k c.args.buffer.now) ≡ take n (drop c.args.start c.args.buffer.now)) all (drop-take c.args.start n c.args.buffer.now) in
    ap (take n) (append_assoc moved left c.split_at_mut-front.result.1.now) ∙ (seam ∙ (back ∙ sym kept))
