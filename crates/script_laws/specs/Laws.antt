-- Made scripts are in the grammar. Scripts are this project's own.
use Rattle.std.specs.Prelude.{◌≡◌, true}
use Rattle.std.specs.Result.{is_ok}
use Rattle.script_maker.specs.Made.{made}
use Rattle.script_maker.specs.Asked.{IsWithin}
use Rattle.script_maker.specs.declared.words.Asked.{Asked}
use Rattle.script_reader.specs.Script.{script_of}

-- what is made for numbers within their limits is read as a script
abbrev pub MadeScriptsAreRead : Type 0
MadeScriptsAreRead = (asked : Asked) → IsWithin asked → is_ok (script_of (made asked.seed asked.apps asked.units)) ≡ true
