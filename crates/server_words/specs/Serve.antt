-- The words of `serve`. They are this project's choice.
use Rattle.std.specs.Prelude.{ℕ, ◌≡◌, ◌≤◌, ◌&&◌, Bool, List, length, Option, Some, None, is_some, option_map, codes, map, string_bytes, if◌then◌else◌}
use Rattle.clap.specs.Walk.{Text, Row, first_of, all_of}
use Rattle.reply_texts.specs.Name.{is_rdb_name}
use Rattle.server_words.specs.Field.{given, each_of, address_of, sessions_of, workers_of, cap_of, member_address, member_weight, is_number_of_members}
use Rattle.reply_texts.specs.RdbName.{characters_of}
use Rattle.server_words.specs.declared.serve.ServeWords.{ServeWords}
use Rattle.server_words.specs.declared.serve.ServeOptions.{ServeOptions}
use Rattle.server_words.specs.Command.{serve, is_named, found_by}

-- what the options say
pub record Options : Type 0 where
  pub listen : Text
  pub rdb : Text
  pub sessions : ℕ
  pub workers : ℕ
  pub cap : ℕ

-- what the words say: beside the options the addresses and the weights of the members, in the order of their numbers from 1
pub record Serving : Type 0 where
  pub options : Options
  pub addresses : List Text
  pub weights : List ℕ

abbrev pub rdb_of : Text → Option Text
rdb_of word = if is_rdb_name word then Some word else None

unfoldable pub options_of : List Row → Option Options
options_of found =
    given (given (first_of (codes "listen") found) address_of) (λ listen.
    given (given (first_of (codes "rdb") found) rdb_of) (λ rdb.
    given (given (first_of (codes "sessions") found) sessions_of) (λ sessions.
    given (given (first_of (codes "workers") found) workers_of) (λ workers.
    given (given (first_of (codes "cap") found) cap_of) (λ cap.
    Some (record { listen = listen; rdb = rdb; sessions = sessions; workers = workers; cap = cap }))))))

-- what is said of the members, where there are 1 to 32 and each has an address and a weight
unfoldable pub with_members : Options → List Text → Option Serving
with_members options words =
    if is_number_of_members (length words)
    then given (each_of member_address words) (λ addresses.
    option_map (λ weights. record { options = options; addresses = addresses; weights = weights }) (each_of member_weight words))
    else None

-- what is found says what it says where each value is right
unfoldable pub serving_of : List Row → Option Serving
serving_of found = given (options_of found) (λ options. given (all_of (codes "member") found) (with_members options))

-- what right words say, and None where they aren't right
unfoldable pub serve_said : List Text → Option Serving
serve_said words = if is_named (codes "serve") words then given (found_by serve words) serving_of else None

abbrev pub is_right_serve : List Text → Bool
is_right_serve words = is_some (serve_said words)

-- what a struct of the code says
abbrev pub said_in : ServeWords → Serving
said_in words = record {
  options = record {
    listen = string_bytes words.listen;
    rdb = characters_of words.rdb;
    sessions = words.sessions;
    workers = words.workers;
    cap = words.cap;
  };
  addresses = map string_bytes words.addresses.items;
  weights = words.weights.items;
}

abbrev pub options_in : ServeOptions → Options
options_in options = record {
  listen = options.listen.now;
  rdb = characters_of options.rdb;
  sessions = options.sessions;
  workers = options.workers;
  cap = options.cap;
}
