-- What a pool lends, and what rests in it: this project's own. That a conversation to which the server's attributes are
-- known goes on from ACCSEC is DDM, volume 3, EXCSAT.
use Rattle.std.specs.Prelude.{◌≡◌, ℕ, Bool, ◌||◌, not}
use Rattle.std.specs.List.{list_all, range_with_len}
use Rattle.server_list.specs.Tried.{has_member}
use Rattle.access_handshake.specs.declared.stage.Mark.{Mark}
use Rattle.access_handshake.specs.declared.stage.Stage.TheVariants.{Attached}
use Rattle.transport_pool.specs.declared.terms.Terms.{Terms}

-- the right to a transport: its number, its member's, and what it was asked with
pub record Granted : Type 0 where
  pub number : ℕ
  pub member : ℕ
  pub terms : Terms

-- a link under the number that it was granted, and where its conversation stands
pub record Resting (L : Type 0) : Type 0 where
  pub grant : Granted
  pub link : L
  pub mark : Mark

-- the conversation is Attached, and nothing that was read is left over
pub record IsAtRest (mark : Mark) : Type 0 where
  pub stage : mark.stage ≡ Attached
  pub unread : mark.unread ≡ 0

-- all members of the one set are in the other
abbrev pub is_within : ℕ → ℕ → Bool
is_within members tried =
    list_all (λ member. not (has_member members member) || has_member tried member) (range_with_len 1 32)
