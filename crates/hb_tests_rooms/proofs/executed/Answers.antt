use Rattle.hb_tests_rooms.proofs.executed.Goals as goal

-- behind a line that was done

pub invariant_of-club-clause-held_times : goal.invariant_of-club-clause-held_times
invariant_of-club-clause-held_times c = c.done.new.club.lone.room.held_times

pub invariant_of-club-clause-bare : goal.invariant_of-club-clause-bare
invariant_of-club-clause-bare c = c.done.new.club.lone.room.bare

pub invariant_of-club-clause-keepable : goal.invariant_of-club-clause-keepable
invariant_of-club-clause-keepable c = c.done.new.club.lone.room.keepable

-- behind a line that stopped the program

pub invariant_of-club-in-Err-clause-held_times : goal.invariant_of-club-in-Err-clause-held_times
invariant_of-club-in-Err-clause-held_times c = c.done.new.club.lone.room.held_times

pub invariant_of-club-in-Err-clause-bare : goal.invariant_of-club-in-Err-clause-bare
invariant_of-club-in-Err-clause-bare c = c.done.new.club.lone.room.bare

pub invariant_of-club-in-Err-clause-keepable : goal.invariant_of-club-in-Err-clause-keepable
invariant_of-club-in-Err-clause-keepable c = c.done.new.club.lone.room.keepable

-- behind the last line

pub invariant_of-club-2-clause-held_times : goal.invariant_of-club-2-clause-held_times
invariant_of-club-2-clause-held_times c = c.loop-line.club.lone.room.held_times

pub invariant_of-club-2-clause-bare : goal.invariant_of-club-2-clause-bare
invariant_of-club-2-clause-bare c = c.loop-line.club.lone.room.bare

pub invariant_of-club-2-clause-keepable : goal.invariant_of-club-2-clause-keepable
invariant_of-club-2-clause-keepable c = c.loop-line.club.lone.room.keepable
