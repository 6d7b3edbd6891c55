-- `write_stored` meets its contract: what `opens` answers tells which text it is, and a result that opens has room for its own.
use mathlib.Core.Path.{sym}
use native.Mathlib.Omega.{arith}
use Rattle.claims.proofs.StoredHold.{different_within}
use Rattle.rules.specs.Listing.{printed_answer}
use Rattle.text.proofs.Writing.{◌within◌}
use Rattle.pages.proofs.Archiving.{opened_roomy}
use Rattle.pages.proofs.write_stored.Goals as goal

pub write_opened-requires : goal.write_opened-requires
write_opened-requires c = let told = rw c.in-Ok.is at c.opens.ensures in
    let room = opened_roomy c.requires.accepted_as (sym told) in
    record { in_bounds = (c.requires.stored_len_bound.1, room.orders); stored_bound = (room.rounds, room.last) }

pub write_different-requires : goal.write_different-requires
write_different-requires c = let told = rw (c.in-Err-Different.is, c.in-Err-Different.field-0-is) at c.opens.ensures in
    let few = different_within c.args.words.now c.args.stored.now (sym told) in
    (omega (arith, few), omega arith)

pub returns-in-Err-Refused : goal.returns-in-Err-Refused
unfolding printed_answer
returns-in-Err-Refused c = let told = rw (c.in-Err-Refused.is, c.in-Err-Refused.field-0-is) at c.opens.ensures in
    rw (← told) (c.write_refusal.ensures within omega arith)
