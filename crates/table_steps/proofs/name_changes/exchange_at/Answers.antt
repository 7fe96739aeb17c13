use Rattle.tree.specs.Places.{at_in}
use Rattle.table_steps.proofs.Exchanging.{exchange_children, exchanges_names, may_exchange}
use Rattle.table_steps.proofs.NewlyCut.{listed_exchanged}
use Rattle.table_steps.proofs.name_changes.exchange_at.Goals as goal

pub exchange-requires-clause-can : goal.exchange-requires-clause-can
exchange-requires-clause-can c = may_exchange (at_in c.args.tree.now) c.args.source.key c.args.target.key c.requires.leads c.requires.target_leads c.requires.may

pub returns-clause-exchanges : goal.returns-clause-exchanges
returns-clause-exchanges c = exchanges_names (at_in c.args.tree.now) (at_in c.exchange.new.self) c.args.source.key c.args.target.key c.exchange.ensures.exchanges.exchanges

pub returns-clause-children : goal.returns-clause-children
returns-clause-children c = exchange_children (at_in c.args.tree.now) (at_in c.exchange.new.self) c.args.source.key c.args.target.key c.exchange.ensures.exchanges.exchanges

pub returns-clause-listed : goal.returns-clause-listed
returns-clause-listed c = listed_exchanged c.args.tree.now c.exchange.new.self c.args.source.key.parent c.args.source.key.name c.args.target.key.parent c.args.target.key.name c.requires.tree c.exchange.ensures.tree c.exchange.ensures.exchanges
