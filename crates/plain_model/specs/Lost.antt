-- The server's conversation is lost, and what the application is told of it. DRDA, volume 3, ABNUOWRM, SQLCARD; DDM, volume 3,
-- AGNPRMRM. Which error is owed, and the SQLCODEs and SQLSTATEs, are this project's own.
use Rattle.std.specs.Prelude.{ℕ, suc, negsuc, ℤ, Bool, true, false, ◌&&◌, ◌||◌, if◌then◌else◌, List, [], ◌∷◌, ◌++◌, codes, replicate}
use Rattle.std.specs.Prelude.{Option, Some, None}
use Rattle.dss_frame.specs.declared.dss.Dss.{Dss}
use Rattle.dss_frame.specs.declared.dss.Kind.TheVariants as kind
use Rattle.ddm_objects.specs.Objects.{canonical_object}
use Rattle.ddm_codepoints.specs.CodePoint.{agnprmrm, rsclmtrm}
use Rattle.ddm_codepoints.specs.Value.{error, severe}
use Rattle.reply_texts.specs.declared.sqlcard.Card.{Card}
use Rattle.reply_texts.specs.declared.sqlcard.Card.TheVariants.{Full}
use Rattle.reply_texts.specs.Reply.{severity, abnuow_object}
use Rattle.reply_texts.specs.Sqlcard.{sqlcard_object}
use Rattle.reply_texts.specs.Closing.{last, ended_card}
use Rattle.access_handshake.specs.declared.stage.Stage.{Stage}
use Rattle.access_handshake.specs.declared.stage.Stage.TheVariants.{New, Attached, Chosen, Checked, Accessed}
use Rattle.plain_model.specs.Core.{Core, After, Owed, Nothing, Rerouted, Unknown, End, AppEnded, AppFault, NoMember, Limit, LimitKind, first}
use Rattle.plain_model.specs.Core.{first_number, has_commit, still, finished, ends_with}

-- ---- the loss

-- the commit of the segment in work was sent
abbrev pub commit_sent : Core → Bool
commit_sent k = k.sent && has_commit (first k.segments)

-- an error is owed now: the unit in work is the next one, and nothing was done in it
abbrev pub owes : Owed → Core → Core
owes owed k = record k { owed = owed; spoken = false; pinned = false; again = []; unit = suc k.unit; sent = false }

-- what a loss makes of a core that owed this
abbrev pub lost_owing : Owed → Core → Core
lost_owing Nothing k =
    if commit_sent k then owes Unknown k
    else (if k.spoken || k.pinned then owes Rerouted k
    else record k { sent = false })
lost_owing Rerouted k = record k { sent = false }
lost_owing Unknown k = record k { sent = false }

-- The segment in work is no longer sent. An error is owed where its commit was sent, or where the unit can't be run again; one
-- that was owed stays.
unfoldable pub lost : Core → Core
lost k = lost_owing k.owed k

-- ---- what is told

-- a SQLCARD of the gateway's own
abbrev pub own_card : ℤ → List ℕ → Card
own_card code state = Full (record { code = code; state = state; proc = replicate 8 0x20 })

-- ABNUOWRM and a SQLCARD, with the number of the first command in work
abbrev pub rolled_back_with : List ℕ → Card → Core → List Dss
rolled_back_with name card k =
    last kind.Reply (first_number k) (abnuow_object name)
    ∷ last kind.Object (first_number k) (sqlcard_object k.typdef card)
    ∷ []

-- the application goes on with another server: SQLCODE -30108
abbrev pub rerouted_card : Owed → Card
rerouted_card Nothing = own_card (negsuc 30107) (codes "08506")
rerouted_card Rerouted = own_card (negsuc 30107) (codes "08506")
rerouted_card Unknown = own_card (negsuc 30107) (codes "08007")

-- the owed error answers the first command in work, and nothing more of the chain is run
unfoldable pub accepted : List ℕ → Core → After
accepted name k = finished (still (record k {
  kept = k.kept ++ rolled_back_with name (rerouted_card k.owed) k;
  segments = [];
  owed = Nothing;
}))

-- a reply message with its severity alone
abbrev pub message : ℕ → ℕ → Core → List Dss
message code value k = last kind.Reply (first_number k) (canonical_object code (severity value)) ∷ []

abbrev pub is_unknown : Owed → Bool
is_unknown Nothing = false
is_unknown Rerouted = false
is_unknown Unknown = true

-- no member gives access: AGNPRMRM before the database was accessed, and else ABNUOWRM and SQLCODE -30081
abbrev pub none_left_replies : List ℕ → Stage → Core → List Dss
none_left_replies name New k = message agnprmrm severe k
none_left_replies name Attached k = message agnprmrm severe k
none_left_replies name Chosen k = message agnprmrm severe k
none_left_replies name Checked k = message agnprmrm severe k
none_left_replies name Accessed k = rolled_back_with name (ended_card (is_unknown k.owed)) k

unfoldable pub none_left : List ℕ → Core → After
none_left name k = ends_with (none_left_replies name k.standing.stage k) NoMember k

-- ---- other ends

-- a limit was passed; the segments stay as they are
unfoldable pub closed : LimitKind → Core → After
closed which k = ends_with (message rsclmtrm error k) (Limit which) k

abbrev pub end_or : Option End → End → End
end_or None end = end
end_or (Some before) end = before

abbrev pub app_end : Bool → End
app_end failed = if failed then AppFault else AppEnded

-- the application ended, or failed; an end that the session already had stays
unfoldable pub left : Bool → Core → Core
left failed k = record k { end = Some (end_or k.end (app_end failed)) }
