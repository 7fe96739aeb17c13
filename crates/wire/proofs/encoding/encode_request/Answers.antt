use Rattle.wire.proofs.Again.{request_written}
use Rattle.wire.proofs.encoding.encode_request.Goals as goal

pub returns-in_err-reserve-clause-again : goal.returns-in_err-reserve-clause-again
returns-in_err-reserve-clause-again c names frame fits is = request_written names frame c.args.request.now fits is

pub returns-clause-again : goal.returns-clause-again
returns-clause-again c names frame fits is = request_written names frame c.args.request.now fits is

pub returns-in_default-clause-again : goal.returns-in_default-clause-again
returns-in_default-clause-again c names frame fits is = request_written names frame c.args.request.now fits is
