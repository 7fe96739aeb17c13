-- The parts of a session before it begins.
use Rattle.std.specs.Prelude.{◌≡◌, ℕ, false, [], Option, Some, None}
use Rattle.crossbeam_channel.specs.Claims.{view}
use Rattle.crossbeam_channel.specs.Ends.{sends_on, receives_on}
use Rattle.ledger.specs.Shares.{Part, nothing}
use Rattle.terms.specs.declared.settings.Settings.{Settings}
use Rattle.engine_queues.specs.Jobs.{hand}
use Rattle.engine_queues.specs.Replies.{sender}
use Rattle.engine_turns.specs.Queues.{JobQueue, ReplyQueue}
use Rattle.engine_turns.specs.TableCalls.{OnTable, idle}
use Rattle.engine_turns.specs.declared.reader.Reader.{Reader}
use Rattle.engine_turns.specs.declared.working.Worker.{Worker}

-- a reader that has received nothing
pub record IsUnread (reader : Reader) : Type 0 where
  pub kept : reader.cutter.kept ≡ []
  pub unkept : reader.unkept ≡ 0
  pub agreed : reader.agreed ≡ false
  pub puts_none : (view reader.pass).put ≡ []
  pub no_last_job : reader.last_job ≡ None
  pub none_back : reader.handed_back ≡ None

-- a worker at these queues, with these settings and that number, that has taken no job, put no reply and got none back
pub record IsNewWorker (jobs : JobQueue) (replies : ReplyQueue) (settings : Settings) (number : ℕ) (worker : Worker) : Type 0 where
  pub takes_from : receives_on worker.jobs ≡ jobs
  pub puts_into : sends_on worker.replies ≡ replies
  pub settings_are : worker.session.settings ≡ settings
  pub number_is : worker.number ≡ number
  pub takes_none : view worker.job_pass ≡ hand 1 [] []
  pub puts_none : view worker.reply_pass ≡ sender number []
  pub none_back : worker.handed_back ≡ 0

-- a worker that has taken no job, put no reply and got none back, with an empty share and no call on the table
pub record IsReadyWorker (worker : Worker) (share : Part) (on_table : OnTable) : Type 0 where
  pub takes_none : view worker.job_pass ≡ hand 1 [] []
  pub puts_none : view worker.reply_pass ≡ sender worker.number []
  pub none_back : worker.handed_back ≡ 0
  pub share_is : share.totals ≡ nothing
  pub idle_is : on_table ≡ idle worker.number

-- such a worker at these queues, with these settings
pub record IsReadyAt (jobs : JobQueue) (replies : ReplyQueue) (settings : Settings) (worker : Worker) (share : Part) (on_table : OnTable) : Type 0 where
  pub takes_from : receives_on worker.jobs ≡ jobs
  pub puts_into : sends_on worker.replies ≡ replies
  pub settings_are : worker.session.settings ≡ settings
  pub ready : IsReadyWorker worker share on_table

-- the same of a session that began like this
pub record IsReadyHere (jobs : Option JobQueue) (replies : Option ReplyQueue) (settings : Option Settings) (worker : Worker) (share : Part) (on_table : OnTable) : Type 0 where
  pub takes_from : jobs ≡ Some (receives_on worker.jobs)
  pub puts_into : replies ≡ Some (sends_on worker.replies)
  pub settings_are : settings ≡ Some worker.session.settings
  pub ready : IsReadyWorker worker share on_table
