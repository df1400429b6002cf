-- Tightness, gathered: of every public function of every crate, any two outcomes that its promise allows coincide, the contents of lent memory
-- with them. Each theorem is stated of the promise itself, in the crate that has the function. tests/tightness holds this list to the sources, impls of traits and
-- what derives write of `==` and of order with them.
pub use Rattle.places.proofs.Tight.{Verdict-unless_once}
pub use Rattle.figures.proofs.Tight.{Credit-of_once, Account-can_pay_once, Account-charged_once, Account-spend_once, Account-counter_once, KeyHeld-free_once, KeyHeld-is_held_once, KeyHeld-is_named_once, Key-granted_once, Key-loaded_once, Load-settled_once, Load-right_once, Load-free_of_cost_once, Load-bare_once, Tokens-same_once, TrafficKeys-same_once, Timestamp-same_once, KeyDomain-same_once, Interval-same_once, Refusal-same_once, KeyId-same_once, KeyId-eq_is, RightName-same_once, RightName-eq_is, Tokens-partial_cmp_once, Tokens-cmp_once, TrafficKeys-partial_cmp_once, TrafficKeys-cmp_once, Timestamp-partial_cmp_once, Timestamp-cmp_once, Interval-covers_once, Interval-proper_once, Timestamp-live_once, is_live_once, is_counted_once, is_purse_once, is_deletion_once, policy_once, count_limit_once, purse_limit_once, U8FromRefusal-from_once, RightHeld-free_once, RightHeld-is_held_once, RightHeld-is_named_once, Right-is_of_once, Right-fits_once, Right-charged_once, Right-free_if_of_once, Right-unless_of_once}
pub use Rattle.frames.proofs.Tight.{seen_once, key_beside_once, read_once, write_once, written_and_read_once, read_and_written_once, load_length_once}
pub use Rattle.book.proofs.Tight.{empty_once as Book-empty_once, call_once as Book-call_once, serve_once as Book-serve_once, reply_bytes_once}
pub use Rattle.lines.proofs.Tight.{decode_once, Row-as_slice_once, Row-whole_once, reply_line_once, start_once, feed_once, finish_once}
