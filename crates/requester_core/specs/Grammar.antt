-- What a reply is, as a relation of DSSs and the bytes that spell them: DRDA, volume 3, DSS: chaining. Reply.antt says how one is
-- read; a law joins the two.
use Rattle.std.specs.Prelude.{◌≡◌, ℕ, ◌≤◌, true, false, List, [], ◌∷◌, map, length}
use Rattle.dss_frame.specs.declared.dss.Dss.{Dss}
use Rattle.dss_frame.specs.declared.dss.Side.TheVariants.{Replies}
use Rattle.dss_frame.specs.Spelling.{Spelled, Begins}
use Rattle.dss_frame.specs.Reading.{View, start}
use Rattle.requester_core.specs.Reply.{most_reply_bytes}
use Rattle.requester_core.specs.Talk.{Talking}

-- DSS: each but the last is chained to the next one
abbrev pub AreOneChain : List Dss → Type 0
AreOneChain [] = ⊥
AreOneChain (d ∷ []) = d.chained ≡ false
AreOneChain (d ∷ next ∷ dsss) = (d.chained ≡ true) × AreOneChain (next ∷ dsss)

-- DSS: their correlation numbers never fall, and each is that of one of so many commands
abbrev pub NeverFall : ℕ → ℕ → List Dss → Type 0
NeverFall count least [] = Unit {0}
NeverFall count least (d ∷ dsss) = (least ≤ d.corr) × (d.corr ≤ count) × NeverFall count d.corr dsss

-- The bytes are a reply to so many commands, numbered from 1: these DSSs of a server. Its limit is this project's own.
pub record IsReply (count : ℕ) (dsss : List Dss) (bytes : List ℕ) : Type 0 where
  pub spelled : List Spelled
  pub are : map (λ s. s.dss) spelled ≡ dsss
  pub begins : Begins Replies spelled [] bytes
  pub chain : AreOneChain dsss
  pub numbers : NeverFall count 1 dsss
  pub fits : length bytes ≤ most_reply_bytes

-- ---- where a reply begins

-- a reader at a place where a chain begins
abbrev pub reader_at : ℕ → View
reader_at at = record (start Replies most_reply_bytes) { position = record { at = at; room = most_reply_bytes; before = 0 } }

-- nothing of a reply was read
pub record StandsBefore (t : Talking) : Type 0 where
  pub reader : t.reader ≡ reader_at t.reader.position.at
  pub replies : t.replies ≡ []
  pub unread : t.unread ≡ 0
