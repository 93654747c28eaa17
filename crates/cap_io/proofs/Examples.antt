-- Worked examples of the definitions, by computation.
use Rattle.std.proofs.Common.{◌≡◌, [], ◌∷◌, Some, None, refl, inr, false, lit<, lit≤}
use Rattle.std.specs.Io.KnownBytes.{Consumes}
use Rattle.cap_io.specs.Faults.{HasRisen, next_count}
use Rattle.cap_io.specs.Reading.{TellsAlike, IsPastLimit}
use Rattle.cap_io.specs.Writing.{Adds}
use Rattle.cap_io.specs.Memory.{Feed, fed, failed_feed, feed_count, tray_count}
use Rattle.cap_io.specs.Sure.{spooled, told_by}

-- `abc` in pieces of 2
abbrev feed : Feed
feed = record { left = 97 ∷ 98 ∷ 99 ∷ []; piece = 2; failing = 1 ∷ []; calls = 0; faults = 0 }

two_of_three : feed_count feed 4096 ≡ 2
two_of_three = refl

c_is_left : (fed feed 2).left ≡ 99 ∷ []
c_is_left = refl

call_one_is_next : (fed feed 2).calls ≡ 1
call_one_is_next = refl

a_failed_call_keeps_the_bytes : (failed_feed feed).left ≡ feed.left
a_failed_call_keeps_the_bytes = refl

ab_was_taken : Consumes (Some (feed.left)) (Some (99 ∷ [])) (97 ∷ 98 ∷ [])
ab_was_taken = refl

told_stays_told : TellsAlike (Some (feed.left)) (Some [])
told_stays_told = refl

three_bytes_are_past_two : IsPastLimit 2 feed.left
three_bytes_are_past_two = record { more = lit< tt; most = lit≤ tt }

the_last_count_stays : next_count 18446744073709551615 ≡ 18446744073709551615
the_last_count_stays = refl

the_last_count_has_risen : HasRisen 18446744073709551615 18446744073709551615
the_last_count_has_risen = inr refl

c_was_added : Adds (Some (97 ∷ 98 ∷ [])) (Some (97 ∷ 98 ∷ 99 ∷ [])) (99 ∷ [])
c_was_added = refl

a_sink_may_stop_telling : Adds (Some (97 ∷ [])) None (98 ∷ [])
a_sink_may_stop_telling = tt

one_place_is_left : tray_count (record { written = 97 ∷ []; piece = 5; space = 2; failing = []; calls = 1; faults = 0 }) (98 ∷ 99 ∷ []) ≡ 1
one_place_is_left = refl

a_small_text_is_told : told_by (spooled (record { kept = []; lost = false }) (97 ∷ [])).lost (spooled (record { kept = []; lost = false }) (97 ∷ [])).kept ≡ Some (97 ∷ [])
a_small_text_is_told = refl
