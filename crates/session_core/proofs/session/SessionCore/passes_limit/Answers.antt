use Rattle.std.proofs.Common.{◌≡◌, ◌++◌, length, nat_lt, is_none, sym, arith}
use Rattle.unit_segments.specs.Limit.{most_reply_bytes}
use Rattle.unit_segments.specs.Spelling.{join}
use Rattle.session_core.proofs.Sizes.{passes_then}
use Rattle.session_core.proofs.session.SessionCore.passes_limit.Goals as goal

pub returns-in-Some : goal.returns-in-Some
returns-in-Some c =
    let passes : is_none c.room_behind-in-Some.result ≡ nat_lt most_reply_bytes (length (join (c.as_slice.result.now ++ c.as_slice-in-Some.result.now))) =
    passes_then most_reply_bytes c.in-Some.room c.as_slice.result.now c.as_slice-in-Some.result.now c.room_behind-in-Some.result
    (sym c.in-Some.ensures) (sym c.room_behind-in-Some.ensures) in
    grind (arith, passes, c.is_none.ensures, c.as_slice.ensures, c.as_slice-in-Some.ensures, c.self.view_is)
