-- The result of a call on a memory tree.
use Rattle.std.specs.Prelude.{ℤ, ◌≡◌, Result, Ok, Err, Option, Some, None, List}
use Rattle.backing.specs.declared.call.Answer.{Answer}
use Rattle.backing.specs.declared.refusal.Refusal.{Refusal}
use Rattle.backing.specs.declared.refusal.Refusal.TheVariants.{Errno, Memory}
use Rattle.backing.specs.declared.call.Answer.TheVariants.{Fault}
use Rattle.errno.specs.declared.TheConstants.{ENOMEM}
use Rattle.backing.specs.Tree.{Tree}
use Rattle.backing.specs.Calls.{memory_limit, Asked, Test, tests_of, PassesAll, Refuses, Does, Starves}

-- It did its work; or the first test that failed gives the error; or memory was refused for its work. Only its work
-- changes the tree.
abbrev pub Ends : Tree → Asked → Result Answer Refusal → Tree → Type 0
Ends old call (Ok answer) new = PassesAll old (tests_of memory_limit call) × Does old call answer new
Ends old call (Err (Errno errno)) new = Refuses old (tests_of memory_limit call) errno × (new ≡ old)
Ends old call (Err Memory) new = Starves memory_limit old call × (new ≡ old)

-- why these tests did not all pass, or that they did and memory was refused
abbrev pub Refusing : Tree → List Test → Refusal → Type 0
Refusing at tests (Errno errno) = Refuses at tests errno
Refusing at tests Memory = PassesAll at tests

abbrev pub refusal_errno : Refusal → ℤ
refusal_errno (Errno errno) = errno
refusal_errno Memory = ENOMEM

-- the error number of a call that fails after its work
abbrev pub errno_after : Result Answer Refusal → ℤ → ℤ
errno_after (Ok answer) errno = errno
errno_after (Err (Errno refused)) errno = errno
errno_after (Err Memory) errno = ENOMEM

-- whether it was done, or its error number
abbrev pub settled : Result Answer Refusal → Result (Unit {0}) ℤ
settled (Ok answer) = Ok tt
settled (Err refusal) = Err (refusal_errno refusal)

-- the tree's own answer, which may be a refusal, or none if memory was refused
abbrev pub answered : Result Answer Refusal → Option Answer
answered (Ok answer) = Some answer
answered (Err (Errno errno)) = Some (Fault errno)
answered (Err Memory) = None
