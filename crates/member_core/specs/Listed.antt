-- The list of members that a member tells where it gives access. DRDA, volume 3, ACCRDBRM, SRVLST.
use Rattle.std.specs.Prelude.{◌==◌, Bool, not, ◌&&◌, nat_le, if◌then◌else◌, ◌++◌, length}
use Rattle.dss_frame.specs.declared.dss.Dss.{Dss}
use Rattle.ddm_objects.specs.Objects.{canonical_object}
use Rattle.ddm_codepoints.specs.CodePoint.{accrdbrm}
use Rattle.server_list.specs.Lists.{Listing}
use Rattle.server_list.specs.Layout.{list_object}
use Rattle.unit_segments.specs.Limit.{most_chain_bytes}
use Rattle.unit_segments.specs.Command.{data_of}
use Rattle.unit_segments.specs.Strip.{is_object_of}

-- It is an ACCRDBRM, and the list has rows. That a group's is no longer than a chain of requests may be is a law of groups;
-- a longer one would get no list.
abbrev pub takes_list : Listing → Dss → Bool
takes_list list d = not (length list.rows == 0) && (is_object_of accrdbrm d && nat_le (length d.body) most_chain_bytes)

-- ACCRDBRM has the list behind its own parameters, and every other reply stays.
abbrev pub with_list : Listing → Dss → Dss
with_list list d =
    if takes_list list d
    then record d { body = canonical_object accrdbrm (data_of d.body ++ list_object list) }
    else d
