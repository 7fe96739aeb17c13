use Rattle.std.proofs.Common.{◌≡◌, ◌∙◌, [], Some, ap, sym}
use Rattle.std.proofs.lemmas.List.Elements.{All-pop}
use Rattle.ledger.specs.Shares.{Part, nothing}
use Rattle.engine_queues.specs.Replies.{sender}
use Rattle.engine_turns.specs.TableCalls.{idle}
use Rattle.engine_threads.proofs.preparing.ready_worker.Goals as goal

pub returns-clause-ready : goal.returns-clause-ready
returns-clause-ready g c =
    let n = c.in_ok-worker.ensures.is_new in
    let S : Part → Type 0 = λ (p : Part). p.totals ≡ nothing in
    let taken = All-pop S c.args.shares.now.shares.items c.take.new.self.shares.items (Some c.in_ok-kept.kept.share) c.in_ok-kept.ensures c.requires.shares in
    record {
      takes_from = n.takes_from;
      puts_into = n.puts_into;
      settings_are = n.settings_are;
      ready = record {
        takes_none = n.takes_none;
        puts_none = n.puts_none ∙ ap (λ k. sender k []) (sym n.number_is);
        none_back = n.none_back;
        share_is = taken.1;
        idle_is = c.requires.idle ∙ ap idle (sym n.number_is);
      };
    }

pub returns-clause-shares : goal.returns-clause-shares
returns-clause-shares g c =
    let S : Part → Type 0 = λ (p : Part). p.totals ≡ nothing in
    (All-pop S c.args.shares.now.shares.items c.take.new.self.shares.items (Some c.in_ok-kept.kept.share) c.in_ok-kept.ensures c.requires.shares).0
