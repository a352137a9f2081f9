-- The words of `member`. They are this project's choice.
use Rattle.std.specs.Prelude.{ℕ, ◌≡◌, ◌≤◌, ◌&&◌, Bool, List, length, Option, Some, None, is_some, option_map, codes, map, string_bytes, if◌then◌else◌}
use Rattle.clap.specs.Walk.{Text, Row, first_of, all_of}
use Rattle.server_words.specs.Field.{given, address_of, sessions_of, workers_of, users_of}
use Rattle.server_words.specs.declared.member.User.{User}
use Rattle.server_words.specs.declared.member.MemberWords.{MemberWords}
use Rattle.server_words.specs.declared.member.MemberOptions.{MemberOptions}
use Rattle.server_words.specs.Command.{member, is_named, found_by}

-- what the options say
pub record Options : Type 0 where
  pub listen : Text
  pub sessions : ℕ
  pub workers : ℕ

-- what the words say; each user is a name and a password
pub record Membership : Type 0 where
  pub options : Options
  pub users : List (Text × Text)

unfoldable pub options_of : List Row → Option Options
options_of found =
    given (given (first_of (codes "listen") found) address_of) (λ listen.
    given (given (first_of (codes "sessions") found) sessions_of) (λ sessions.
    given (given (first_of (codes "workers") found) workers_of) (λ workers.
    Some (record { listen = listen; sessions = sessions; workers = workers }))))

-- what is said of the users
abbrev pub with_users : Options → List Text → Option Membership
with_users options words = option_map (λ users. record { options = options; users = users }) (users_of words)

-- what is found says what it says where each value is right
unfoldable pub membership_of : List Row → Option Membership
membership_of found = given (options_of found) (λ options. given (all_of (codes "user") found) (with_users options))

-- what right words say, and None where they aren't right
unfoldable pub member_said : List Text → Option Membership
member_said words = if is_named (codes "member") words then given (found_by member words) membership_of else None

abbrev pub is_right_member : List Text → Bool
is_right_member words = is_some (member_said words)

-- what a struct of the code says
abbrev pub user_in : User → Text × Text
user_in user = (string_bytes user.name, string_bytes user.password)

abbrev pub said_in : MemberWords → Membership
said_in words = record {
  options = record { listen = string_bytes words.listen; sessions = words.sessions; workers = words.workers };
  users = map user_in words.users.items;
}

abbrev pub options_in : MemberOptions → Options
options_in options = record { listen = options.listen.now; sessions = options.sessions; workers = options.workers }
