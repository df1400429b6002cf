-- `unfolding all_figures` opens every definition of this crate and the words that they are written in, to compute with.
use Rattle.places.specs.Words.{all_words}
use Rattle.figures.specs.Names.{same_id, same_name, no_id, covers, empty, live}
use Rattle.figures.specs.Policies.{is_live, is_counted, is_purse, holds_right, is_deletion, count_limit, purse_limit_of}
use Rattle.figures.specs.Accounts.{credit_of}
use Rattle.figures.specs.Rights.{free_right, fits, charged_right, unless_of}
use Rattle.figures.specs.Keys.{free_key, granted_key, loaded_key}
use Rattle.figures.specs.Loads.{raised, total_of, settled, loaded_right, costly, laden}

unfoldable pub all_figures : Type 0
unfolding all_words same_id same_name no_id covers empty live is_live is_counted is_purse holds_right is_deletion count_limit purse_limit_of credit_of free_right fits charged_right unless_of free_key granted_key loaded_key raised total_of settled loaded_right costly laden
all_figures = Unit {0}
