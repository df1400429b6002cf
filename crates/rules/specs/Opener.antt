-- `unfolding all_rules` opens every rule, and all that they are written in, to compute with.
use Rattle.figures.specs.Opener.{all_figures}
use Rattle.frames.specs.Reading.{is_load, is_message, is_right, seen, key_beside}
use Rattle.rules.specs.Pages.{blank, key_at, right_at, key_in, right_in, free_key_at, free_right_at, key_room, right_room, purse_of, user_purse, as_held}
use Rattle.rules.specs.Calls.{unless}
use Rattle.rules.specs.Loads.{loadable, account_before, over_limit, over_reply, load_refusals, key_after, loaded, store}
use Rattle.rules.specs.Deletions.{reportable, report_refusals, report, left, dropped, delete_refusals, delete, erased, erase_refusals, erase}
use Rattle.rules.specs.Messages.{replay_of, fitting, paying, payer, message_refusals, granted, grant, message}
use Rattle.rules.specs.Replies.{reply_fields, code, reply_bytes}
use Rattle.rules.specs.Rules.{load, act, buffer_refusals, step, taken, call}

unfoldable pub all_rules : Type 0
unfolding all_figures is_load is_message is_right seen key_beside blank key_at right_at key_in right_in free_key_at free_right_at key_room right_room purse_of user_purse as_held unless loadable account_before over_limit over_reply load_refusals key_after loaded store reportable report_refusals report left dropped delete_refusals delete erased erase_refusals erase replay_of fitting paying payer message_refusals granted grant message reply_fields code reply_bytes load act buffer_refusals step taken call
all_rules = Unit {0}
