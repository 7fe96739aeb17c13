use Rattle.std.proofs.Common.{◌≡◌, ◌<◌, List, drop, take, length, subst, sym, rules, arith, refl}
use Rattle.backing.specs.declared.call.Child.{Child}
use Rattle.handles.specs.Pages.{IsSmall, IsLongestRun}
use Rattle.handles.proofs.Fitting.{small_first, not_small}
use Rattle.handles.proofs.listing.Listing.page.Goals as goal
use Rattle.handles.proofs.listing.Listing.page.Goals.{else-count-eq0-via-then-count-eq0+else-not-is_empty, else-count-eq0-via-else-count-eq0}

pub returns-then-not-is_empty : goal.returns-then-not-is_empty
returns-then-not-is_empty c =
    let rest : c.entries_from-rest.result.now ≡ drop c.args.offset c.args.self.now.entries = search rules in
    let run : IsLongestRun c.args.plus c.args.size c.entries_from-rest.result.now (take 0 c.entries_from-rest.result.now) = subst (λ n. IsLongestRun c.args.plus c.args.size c.entries_from-rest.result.now (take n c.entries_from-rest.result.now)) c.if-count-eq0.true c.run_len-count.ensures.longest in
    let some : 0 < length c.entries_from-rest.result.now = grind arith in
    subst (λ (es : List Child). IsSmall c.args.plus c.args.size es) rest (small_first c.args.plus c.args.size c.entries_from-rest.result.now run some)

pub returns : goal.returns
returns c =
    let rest : c.entries_from-rest.result.now ≡ drop c.args.offset c.args.self.now.entries = search rules in
    let run = c.run_len-count.ensures.longest in
    let bare : c.run_len-count.result ≡ 0 → length c.entries_from-rest.result.now ≡ 0 = λ none. elim c.else-count-eq0.branch [
      | else-count-eq0-via-then-count-eq0+else-not-is_empty w ↦ grind arith
      | else-count-eq0-via-else-count-eq0 w ↦ grind arith
    ] in (
      refl,
      subst (λ (es : List Child). IsLongestRun c.args.plus c.args.size es (take c.run_len-count.result c.entries_from-rest.result.now)) rest run,
      λ s. not_small c.args.plus c.args.size c.run_len-count.result c.entries_from-rest.result.now run bare (subst (λ (es : List Child). IsSmall c.args.plus c.args.size es) (sym rest) s),
    )
