-- The paper's number for each refusal: 01, Replies. Code 17, which shows more than its code, is a reply of its own.
use Rattle.std.specs.Prelude.{ℕ}
use Rattle.figures.specs.Types.{Refusal, BufferLength, Unreadable, Policy, Fields, EmptyInterval, UnknownId, Full, Integrity, NoFit, NoFunds, NotHeld}

-- 01, Replies, the table's codes
abbrev pub refusal_code : Refusal → ℕ
refusal_code BufferLength = 0x10
refusal_code Unreadable = 0x11
refusal_code Policy = 0x12
refusal_code Fields = 0x13
refusal_code EmptyInterval = 0x14
refusal_code UnknownId = 0x15
refusal_code Full = 0x16
refusal_code Integrity = 0x18
refusal_code NoFit = 0x19
refusal_code NoFunds = 0x1A
refusal_code NotHeld = 0x1B
