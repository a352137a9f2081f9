use Rattle.std.proofs.Common.{◌≡◌, None, subst, sym}
use Rattle.dss_frame.specs.Reading.{View}
use Rattle.dss_frame.specs.Calls.{fed_by}
use Rattle.dss_frame.specs.Spelling.{IsStream}
use Rattle.dss_frame.specs.Told.{dsss_of}
use Rattle.dss_frame.proofs.Pieces.Calls.{calls_read}
use Rattle.dss_frame.proofs.Streams.Told.{is_stream}
use Rattle.dss_frame.proofs.stream_laws.read_is_a_stream.Goals as goal

pub returns : goal.returns
returns c = λ side limit calls fits none.
    subst (λ (v : View). v.fault ≡ None → IsStream side (dsss_of v) v.open (fed_by calls)) (sym (calls_read side limit calls))
    (is_stream side limit (fed_by calls) fits) none
