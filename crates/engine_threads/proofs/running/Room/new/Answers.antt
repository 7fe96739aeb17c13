use Rattle.engine_threads.proofs.running.Room.new.Goals as goal

pub invariant_of-result : goal.invariant_of-result
invariant_of-result g c = record { roles_room = c.in_ok-roles.ensures; started_room = c.in_ok-started.ensures; ended_room = c.in_ok-ended.ensures }
