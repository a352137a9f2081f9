-- A chain that is written is read again as it was.
use Rattle.std.proofs.Common.{◌≡◌, ℕ, ◌+◌, ◌<◌, ◌≤◌, ◌^◌, Bool, true, false, not, List, [], ◌∷◌, ◌++◌, map, length, drop, flat_map, suc}
use Rattle.std.proofs.Common.{None, refl, sym, ap, ◌∙◌, subst, arith}
use Rattle.std.specs.Prelude.{◌&&◌, ◌||◌, IsTrue}
use Rattle.std.specs.List.{AllByRecursion}
use Rattle.std.proofs.lemmas.Bool.{both_ways}
use Rattle.std.proofs.lemmas.List.{append_assoc, append-nil, length-append, drop_at}
use Rattle.link_ends.specs.Bytes.{AreBytes}
use Rattle.dss_frame.specs.declared.dss.Kind.{Kind}
use Rattle.dss_frame.specs.declared.dss.Kind.TheVariants.{Request, Object}
use Rattle.dss_frame.specs.declared.dss.Side.TheVariants.{Requests}
use Rattle.dss_frame.specs.declared.dss.Dss.{Dss}
use Rattle.dss_frame.specs.declared.dss.Placed.{Placed}
use Rattle.dss_frame.specs.Dss.{canonical}
use Rattle.dss_frame.specs.Spelling.{Spelled, IsSpelled, IsDssOf}
use Rattle.dss_frame.specs.Told.{read, told, AreAt}
use Rattle.dss_frame.proofs.Spellings.OneSpelling.{canonical_spells, one_spelling}
use Rattle.dss_frame.proofs.Streams.Places.{stands_at}
use Rattle.dss_frame.proofs.Streams.Written.{written_read}
use Rattle.unit_segments.specs.declared.command.Command.{Command}
use Rattle.unit_segments.specs.Chain.{no_chain, chains_of, chains_from}
use Rattle.unit_segments.specs.Grammar.{none_before, AreLinked, goes_on_after, command_with, Grouped, grouped_with, grouped, commands_of}
use Rattle.unit_segments.specs.Grammar.{HasSoundBody, IsChain, Chained, Begins}
use Rattle.unit_segments.specs.Spelling.{is_last, command_dss, object_dsss, command_dsss, chain_dsss, chain_bytes}
use Rattle.unit_segments.specs.Written.{size_of, placed_from, commands_from, IsWritable, AreWritable, IsReadAs}
use Rattle.unit_segments.proofs.ReadChains.{chains_read}

-- ---- the DSSs stand at their places

written_at : (dsss : List Dss) (whole : List Placed) (spelled : List Spelled) (rest : List ℕ) (place : ℕ) → AllByRecursion (IsDssOf Requests) dsss →
    AllByRecursion (IsSpelled Requests) spelled → flat_map canonical dsss ≡ flat_map (λ (s : Spelled). s.bytes) spelled ++ rest →
    AreAt place spelled whole → map (λ (p : Placed). p.dss) whole ≡ dsss → whole ≡ placed_from place dsss
written_at [] [] spelled rest place each are same at is = refl
written_at [] (w ∷ whole) spelled rest place each are same at is = absurd cc
written_at (d ∷ dsss) [] spelled rest place each are same at is = absurd cc
written_at (d ∷ dsss) (w ∷ whole) [] rest place each are same at is = absurd at
written_at (d ∷ dsss) (w ∷ whole) (s ∷ spelled) rest place each are same at is =
    let first : w.dss ≡ d = cc in
    let others : map (λ (p : Placed). p.dss) whole ≡ dsss = cc in
    let joined : canonical d ++ flat_map canonical dsss ≡ s.bytes ++ (flat_map (λ (x : Spelled). x.bytes) spelled ++ rest) =
    same ∙ append_assoc s.bytes (flat_map (λ (x : Spelled). x.bytes) spelled) rest in
    let bytes = one_spelling Requests d s.dss (canonical d) s.bytes (flat_map canonical dsss) (flat_map (λ (x : Spelled). x.bytes) spelled ++ rest)
    (canonical_spells Requests d each.0) are.0 joined in
    let behind : flat_map canonical dsss ≡ flat_map (λ (x : Spelled). x.bytes) spelled ++ rest =
    sym (drop_at (canonical d) (flat_map canonical dsss) (length (canonical d)) refl)
    ∙ ap (drop (length (canonical d))) joined
    ∙ drop_at s.bytes (flat_map (λ (x : Spelled). x.bytes) spelled ++ rest) (length (canonical d)) (sym (ap length bytes.0)) in
    let size = ap length bytes.0 in
    let tail = written_at dsss whole spelled rest (place + length s.bytes) each.1 are.1 behind at.2 others in
    ap (λ (n : ℕ). record { at = n; dss = w.dss } ∷ whole) at.1
    ∙ ap (λ (x : Dss). record { at = told place; dss = x } ∷ whole) first
    ∙ ap (λ (ps : List Placed). record { at = told place; dss = d } ∷ ps) tail
    ∙ ap (λ (n : ℕ). record { at = told place; dss = d } ∷ placed_from (place + n) dsss) (sym size)

placed_read : (limit : ℕ) (dsss : List Dss) → AllByRecursion (IsDssOf Requests) dsss → AreBytes (flat_map canonical dsss) →
    length (flat_map canonical dsss) ≤ limit → (read Requests limit (flat_map canonical dsss)).whole ≡ placed_from 0 dsss
placed_read limit dsss each fits short =
    let bytes : List ℕ = flat_map canonical dsss in
    let s = stands_at Requests limit bytes fits in
    let r = written_read Requests limit dsss each fits short in
    written_at dsss (read Requests limit bytes).whole s.spelled s.rest 0 each s.begins.each s.begins.all s.each r.1

-- ---- they have spellings

same_is_chained : (ends followed : Bool) → IsTrue (not ends) → IsTrue (not ends || followed)
same_is_chained true followed same = absurd cc
same_is_chained false followed same = refl

objects_have : (command : Command) (followed : Bool) (bodies : List (List ℕ)) → command.corr < 2 ^ 16 →
    (others : List Dss) → AllByRecursion (IsDssOf Requests) others → AllByRecursion (IsDssOf Requests) (object_dsss command followed bodies ++ others)
objects_have command followed [] corr others all = all
objects_have command followed (body ∷ bodies) corr others all =
    (record { kind = tt; corr = corr; same = same_is_chained (is_last bodies) followed }, objects_have command followed bodies corr others all)

chain_has : (commands : List Command) → AllByRecursion IsWritable commands → AllByRecursion (IsDssOf Requests) (chain_dsss commands)
chain_has [] each = tt
chain_has (command ∷ commands) each = (
  record { kind = tt; corr = each.0.corr; same = same_is_chained (is_last command.objects) (not (is_last commands)) },
  objects_have command (not (is_last commands)) command.objects each.0.corr (chain_dsss commands) (chain_has commands each.1),
)

-- ---- they are linked

link_objects : (kind : Kind) (body : List ℕ) (command : Command) (commands : List Command) (bodies : List (List ℕ)) (place : ℕ) →
    ((d : Dss) (at : ℕ) → d.same ≡ false → d.chained ≡ not (is_last commands) → AreLinked false d (placed_from at (chain_dsss commands))) →
    AreLinked false (command_dss kind command (not (is_last commands)) (is_last bodies) body)
    (placed_from place (object_dsss command (not (is_last commands)) bodies ++ chain_dsss commands))
link_objects kind body command commands [] place behind =
    behind (command_dss kind command (not (is_last commands)) true body) place refl refl
link_objects kind body command commands (next ∷ bodies) place behind = (
  refl,
  record { kind = refl; number = λ _. refl },
  link_objects Object next command commands bodies
      (place + length (canonical (command_dss Object command (not (is_last commands)) (is_last bodies) next))) behind,
)

link_chain : (commands : List Command) (d : Dss) (place : ℕ) → d.same ≡ false → d.chained ≡ not (is_last commands) →
    AreLinked false d (placed_from place (chain_dsss commands))
link_chain [] d place alone is = is
link_chain (command ∷ commands) d place alone is = (
  is,
  record { kind = rw alone refl; number = λ same. absurd (both_ways d.same alone same) },
  link_objects Request command.body command commands command.objects
      (place + length (canonical (command_dss Request command (not (is_last commands)) (is_last command.objects) command.body))) (link_chain commands),
)

linked : (commands : List Command) (place : ℕ) → 0 < length commands → AreLinked false none_before (placed_from place (chain_dsss commands))
linked [] place some = absurd (omega (arith, some))
linked (command ∷ commands) place some = link_chain (command ∷ commands) none_before place refl refl

-- ---- their bodies are sound

objects_sound : (command : Command) (followed : Bool) (bodies : List (List ℕ)) (others : List Dss) (place : ℕ) →
    ((at : ℕ) → AllByRecursion HasSoundBody (placed_from at others)) →
    AllByRecursion HasSoundBody (placed_from place (object_dsss command followed bodies ++ others))
objects_sound command followed [] others place behind = behind place
objects_sound command followed (body ∷ bodies) others place behind = (
  λ is. absurd (both_ways false refl is),
  objects_sound command followed bodies others (place + length (canonical (command_dss Object command followed (is_last bodies) body))) behind,
)

chain_sound : (commands : List Command) → AllByRecursion IsWritable commands → (place : ℕ) →
    AllByRecursion HasSoundBody (placed_from place (chain_dsss commands))
chain_sound [] each place = tt
chain_sound (command ∷ commands) each place = (
  λ _. each.0.sound,
  objects_sound command (not (is_last commands)) command.objects (chain_dsss commands)
      (place + length (canonical (command_dss Request command (not (is_last commands)) (is_last command.objects) command.body)))
      (chain_sound commands each.1),
)

-- ---- their commands

-- the objects of a command, in front of others that begin with none
group_objects : (command : Command) (followed : Bool) (bodies : List (List ℕ)) (others : List Dss) (place : ℕ) →
    (grouped (placed_from (place + size_of (object_dsss command followed bodies)) others)).objects ≡ [] →
    grouped (placed_from place (object_dsss command followed bodies ++ others))
    ≡ record {
      objects = placed_from place (object_dsss command followed bodies);
      commands = (grouped (placed_from (place + size_of (object_dsss command followed bodies)) others)).commands;
    }
group_objects command followed [] others place none =
    let at : place + 0 ≡ place = omega arith in
    ap (λ (n : ℕ). grouped (placed_from n others)) (sym at)
    ∙ ap (λ (ps : List Placed). record { objects = ps; commands = (grouped (placed_from (place + 0) others)).commands }) none
group_objects command followed (body ∷ bodies) others place none =
    let d : Dss = command_dss Object command followed (is_last bodies) body in
    let rest : List Dss = object_dsss command followed bodies in
    let at : place + size_of (d ∷ rest) ≡ place + length (canonical d) + size_of rest =
    omega (arith, length-append (canonical d) (flat_map canonical rest)) in
    let here : (grouped (placed_from (place + length (canonical d) + size_of rest) others)).objects ≡ [] =
    subst (λ (n : ℕ). (grouped (placed_from n others)).objects ≡ []) at none in
    ap (grouped_with (record { at = told place; dss = d }) false) (group_objects command followed bodies others (place + length (canonical d)) here)
    ∙ ap (λ (n : ℕ). record { objects = placed_from place (d ∷ rest); commands = (grouped (placed_from n others)).commands }) (sym at)

go_on_objects : (kind : Kind) (body : List ℕ) (command : Command) (followed : Bool) (bodies : List (List ℕ)) (place : ℕ) →
    goes_on_after (command_dss kind command followed (is_last bodies) body) (placed_from place (object_dsss command followed bodies))
    ≡ (followed && command.go_on)
go_on_objects kind body command followed [] place = refl
go_on_objects kind body command followed (next ∷ bodies) place =
    go_on_objects Object next command followed bodies (place + length (canonical (command_dss Object command followed (is_last bodies) next)))

object_bodies : (command : Command) (followed : Bool) (bodies : List (List ℕ)) (place : ℕ) →
    map (λ (p : Placed). p.dss.body) (placed_from place (object_dsss command followed bodies)) ≡ bodies
object_bodies command followed [] place = refl
object_bodies command followed (body ∷ bodies) place =
    ap (λ (bs : List (List ℕ)). body ∷ bs)
    (object_bodies command followed bodies (place + length (canonical (command_dss Object command followed (is_last bodies) body))))

abbrev again : Command → Bool → ℕ → Command
again command followed place = record command { go_on = followed && command.go_on; at = told place }

command_again : (command : Command) (followed : Bool) (place next : ℕ) → IsWritable command →
    command_with (record { at = told place; dss = command_dss Request command followed (is_last command.objects) command.body })
    (placed_from next (object_dsss command followed command.objects)) ≡ again command followed place
command_again command followed place next fits =
    ap (λ (n : ℕ). record {
      code = n;
      corr = command.corr;
      go_on = goes_on_after (command_dss Request command followed (is_last command.objects) command.body)
          (placed_from next (object_dsss command followed command.objects));
      at = told place;
      body = command.body;
      objects = map (λ (p : Placed). p.dss.body) (placed_from next (object_dsss command followed command.objects));
    }) fits.code
    ∙ ap (λ (b : Bool). record command {
      go_on = b;
      at = told place;
      objects = map (λ (p : Placed). p.dss.body) (placed_from next (object_dsss command followed command.objects));
    }) (go_on_objects Request command.body command followed command.objects next)
    ∙ ap (λ (bs : List (List ℕ)). record (again command followed place) { objects = bs }) (object_bodies command followed command.objects next)

group_chain : (commands : List Command) (place : ℕ) → AllByRecursion IsWritable commands →
    grouped (placed_from place (chain_dsss commands)) ≡ record { objects = []; commands = commands_from place commands }
group_chain [] place each = refl
group_chain (command ∷ commands) place each =
    let followed : Bool = not (is_last commands) in
    let d : Dss = command_dss Request command followed (is_last command.objects) command.body in
    let objects : List Dss = object_dsss command followed command.objects in
    let next : ℕ = place + length (canonical d) in
    let behind : ℕ = next + size_of objects in
    let at : behind ≡ place + size_of (d ∷ objects) = omega (arith, length-append (canonical d) (flat_map canonical objects)) in
    let rest = group_chain commands behind each.1 in
    ap (grouped_with (record { at = told place; dss = d }) true)
    (group_objects command followed command.objects (chain_dsss commands) next (ap (λ (g : Grouped). g.objects) rest))
    ∙ ap (λ (c : Command). record { objects = []; commands = c ∷ (grouped (placed_from behind (chain_dsss commands))).commands })
    (command_again command followed place next each.0)
    ∙ ap (λ (g : Grouped). record { objects = []; commands = again command followed place ∷ g.commands }) rest
    ∙ ap (λ (n : ℕ). record { objects = []; commands = again command followed place ∷ commands_from n commands }) at

count_same : (commands : List Command) (place : ℕ) → length (commands_from place commands) ≡ length commands
count_same [] place = refl
count_same (command ∷ commands) place = ap suc (count_same commands (place + size_of (command_dsss (not (is_last commands)) command)))

-- ---- the chain

written_chain : (commands : List Command) → AreWritable commands → IsChain (commands_from 0 commands) (placed_from 0 (chain_dsss commands))
written_chain commands fits =
    let are : commands_of (placed_from 0 (chain_dsss commands)) ≡ commands_from 0 commands =
    ap (λ (g : Grouped). g.commands) (group_chain commands 0 fits.each) in
    record {
      whole = record {
        linked = linked commands 0 fits.some;
        bodies = chain_sound commands fits.each 0;
        count = omega (arith, ap length are, count_same commands 0, fits.count);
      };
      commands_are = sym are;
    }

one_chain_read : (commands : List Command) (placed : List Placed) → IsChain commands placed →
    chains_of placed ≡ record { chains = commands ∷ []; begun = no_chain; fault = None }
unfolding chains_from
one_chain_read commands placed is =
    let chain : Chained = record { commands = commands; placed = placed } in
    let begins : Begins (chain ∷ []) [] placed =
    record { each = (is, tt); all = sym (append-nil placed) ∙ ap (λ (ps : List Placed). ps ++ []) (sym (append-nil placed)) } in
    chains_read (chain ∷ []) [] placed begins

pub chain_read_again : (limit : ℕ) (commands : List Command) → AreWritable commands → AreBytes (chain_bytes commands) → length (chain_bytes commands) ≤ limit →
    IsReadAs limit (commands_from 0 commands) (chain_bytes commands)
unfolding chain_bytes
chain_read_again limit commands fits bytes short =
    let has = chain_has commands fits.each in
    let r = written_read Requests limit (chain_dsss commands) has bytes short in
    record {
      fault = r.0;
      «open» = r.2;
      chains = ap chains_of (placed_read limit (chain_dsss commands) has bytes short)
          ∙ one_chain_read (commands_from 0 commands) (placed_from 0 (chain_dsss commands)) (written_chain commands fits);
    }
