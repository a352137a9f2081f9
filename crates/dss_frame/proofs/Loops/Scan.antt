-- The scan over all bytes of the DSSs that have begun, one DSS after another.
use Rattle.std.proofs.Common.{◌≡◌, ℕ, ◌+◌, ◌-◌, ◌≤◌, Bool, true, false, cond, List, [], ◌∷◌, ◌++◌, length, take, drop, Option, Some, None, is_some}
use Rattle.std.proofs.Common.{if◌then◌else◌, refl, sym}
use Rattle.std.proofs.Common.{ap, subst, ◌∙◌, arith}
use Rattle.std.specs.Option.{option_map}
use Rattle.std.proofs.lemmas.List.{length-drop, length-take, drop-drop, drop_all, take_rest}
use Rattle.dss_frame.specs.declared.dss.Side.{Side}
use Rattle.dss_frame.specs.declared.dss.Dss.{Dss}
use Rattle.dss_frame.specs.declared.dss.Placed.{Placed}
use Rattle.dss_frame.specs.declared.fault.StreamFault.{StreamFault}
use Rattle.dss_frame.specs.declared.fault.StreamFault.TheVariants.{Frame, TooLong}
use Rattle.dss_frame.specs.declared.segments.Extent.TheVariants.{Ends}
use Rattle.dss_frame.specs.declared.step.Position.{Position}
use Rattle.dss_frame.specs.declared.step.Step.{Step}
use Rattle.dss_frame.specs.declared.step.Step.TheVariants.{Waits, Reads, Stops}
use Rattle.dss_frame.specs.declared.scan.Scan.{Scan}
use Rattle.dss_frame.specs.Segments.{extent_of, dss_of}
use Rattle.dss_frame.specs.Kept.{IsWithin}
use Rattle.dss_frame.specs.Fault.{answer_of}
use Rattle.dss_frame.specs.Reading.{View, fed, Stopped, step_of, position_after, read_on, read_all, with_bytes}
use Rattle.dss_frame.specs.Scan.{at_position, kept_by, Scanned}
use Rattle.link_ends.proofs.Lists.{all_push}
use Rattle.dss_frame.proofs.OneDss.Judging.{whole_dss}
use Rattle.dss_frame.proofs.OneDss.Whole.{ends_take, whole_size}
use Rattle.dss_frame.proofs.Pieces.NextStep.{IsRead, is_read}
use Rattle.dss_frame.proofs.Pieces.Pieces.{on_waits, all_reads, all_stops, on_ends, fed_stopped, fed_none, fed-append}

-- ---- reading goes on from there

pub record ReadsOn (side : Side) (limit : ℕ) (bytes : List ℕ) (first here : Position) (old now : List Placed) (begins : ℕ) : Type 0 where
  pub within : begins ≤ length bytes
  pub same : read_all (at_position side limit here now (drop begins bytes)) ≡ read_all (at_position side limit first old bytes)

-- what the code takes is the rest of the bytes
pub step_at : (side : Side) (position : Position) (bytes : List ℕ) (begins : ℕ) (step : Step)
    → step ≡ step_of side position (take (length bytes - begins) (drop begins bytes)) → step_of side position (drop begins bytes) ≡ step
step_at side position bytes begins step e = sym (e ∙ ap (step_of side position) (take_rest bytes begins))

pub read_at : (side : Side) (position : Position) (bytes : List ℕ) (begins count : ℕ)
    → Reads count ≡ step_of side position (take (length bytes - begins) (drop begins bytes)) → IsRead side position (drop begins bytes) count
read_at side position bytes begins count e = is_read side position (drop begins bytes) count (step_at side position bytes begins (Reads count) e)

pub scanned_waits : (side : Side) (limit : ℕ) (bytes : List ℕ) (first here : Position) (old now : List Placed) (begins walked judged : ℕ)
    → ReadsOn side limit bytes first here old now begins → step_of side here (drop begins bytes) ≡ Waits
    → Scanned side limit first bytes old now (record { begins = begins; position = here; walked = walked; fault = None; judged = judged })
scanned_waits side limit bytes first here old now begins walked judged h e = record {
  within = h.within;
  reads = sym (on_waits (length (drop begins bytes)) (at_position side limit here now (drop begins bytes)) e) ∙ h.same;
}

pub scanned_stops : (side : Side) (limit : ℕ) (bytes : List ℕ) (first here : Position) (old now : List Placed) (begins judged : ℕ) (fault : StreamFault)
    → ReadsOn side limit bytes first here old now begins → step_of side here (drop begins bytes) ≡ Stops fault
    → Scanned side limit first bytes old now (record { begins = length bytes; position = here; walked = 0; fault = Some fault; judged = judged })
scanned_stops side limit bytes first here old now begins judged fault h e = record {
  within = omega arith;
  reads =
      ap (λ (xs : List ℕ). record {
        side = side;
        limit = limit;
        whole = now;
        position = here;
        «open» = xs;
        fault =
            Some fault;
      }) (drop_all (length bytes) bytes (omega arith))
      ∙ all_stops (at_position side limit here now (drop begins bytes)) fault e ∙ h.same;
}

pub reads_more : (side : Side) (limit : ℕ) (bytes : List ℕ) (first here : Position) (old now : List Placed) (begins n : ℕ) (d : Dss)
    → ReadsOn side limit bytes first here old now begins → step_of side here (drop begins bytes) ≡ Reads n → d ≡ dss_of (take n (drop begins bytes))
    → ReadsOn side limit bytes first (position_after limit here d n) old (now ++ record { at = here.at; dss = d } ∷ []) (begins + n)
reads_more side limit bytes first here old now begins n d h e is =
    let rest : List ℕ = drop begins bytes in
    let read = is_read side here rest n e in
    record {
      within = omega (arith, h.within, read.within, length-drop begins bytes);
      same =
          ap (λ (xs : List ℕ). read_all (at_position side limit (position_after limit here d n) (now ++ record {
            at = here.at;
            dss =
                d;
          } ∷ []) xs)) (sym (drop-drop n begins bytes))
          ∙ ap (λ (x : Dss). read_all (at_position side limit (position_after limit here x n) (now ++ record { at = here.at; dss = x } ∷ []) (drop n rest))) is
          ∙ all_reads (at_position side limit here now rest) n e ∙ h.same;
    }

pub whole_part : (side : Side) (bytes : List ℕ) (n : ℕ) → extent_of side bytes ≡ Ends n → extent_of side (take n bytes) ≡ Ends (length (take n bytes))
whole_part side bytes n e =
    let whole = whole_dss side bytes n e in
    let size : length (take n bytes) ≡ n = omega (arith, length-take n bytes, whole.within) in
    ends_take side bytes n e ∙ ap (λ (k : ℕ). Ends k) (sym size)

-- ---- what is kept of the sizes

abbrev BodyFits : ℕ → Placed → Type 0
BodyFits limit placed = length placed.dss.body + 6 ≤ limit

room_within : (b : Bool) (room count limit : ℕ) → room ≤ limit → cond b (room - count) limit ≤ limit
room_within true room count limit h = omega arith
room_within false room count limit h = omega arith

Keeps : View → View → Type 0
Keeps v r = IsWithin v.limit v.whole v.position → IsWithin v.limit r.whole r.position

on_within : (count : ℕ) (v : View) → IsWithin v.limit v.whole v.position → IsWithin v.limit (read_on count v).whole (read_on count v).position
unfolding Keeps
on_within =
    on_ends Keeps (λ v h. h) (λ v r n step goes h.
    let read = is_read v.side v.position v.open n step in
    let d : Dss = dss_of (take n v.open) in
    let size = whole_size v.side v.open n read.ends in
    goes (record {
      bodies = all_push (BodyFits v.limit) v.whole (record {
        at = v.position.at;
        dss =
            d;
      }) h.bodies (omega (arith, size, read.room, h.room));
      room = room_within d.chained v.position.room n v.limit h.room;
    })) (λ v fault step h. h)

-- ---- a piece

-- a fault is answered again
pub stopped_by : (fault : StreamFault) (old new : View) (piece : List ℕ) → new ≡ fed old piece → new.fault ≡ Some fault
    → Stopped (answer_of fault) old new piece
stopped_by (Frame at why corr) old new piece is kept = (is, ap (option_map answer_of) kept)
stopped_by (TooLong at corr) old new piece is kept = (is, ap (option_map answer_of) kept)

pub stopped_again : (fault : StreamFault) (v : View) (piece : List ℕ) → v.fault ≡ Some fault → Stopped (answer_of fault) v v piece
stopped_again fault v piece is = stopped_by fault v v piece (sym (fed_stopped v piece fault is)) is

-- what a piece leaves, by the scan of all bytes that have begun, where these are kept that it left
pub fed_left : (v : View) (piece bytes kept : List ℕ) (new : List Placed) (s : Scan) → v.fault ≡ None → bytes ≡ v.open ++ piece
    → Scanned v.side v.limit v.position bytes v.whole new s → kept ≡ drop s.begins bytes
    → kept_by v.side v.limit new kept s ≡ fed v piece
fed_left v piece bytes kept new s none joined h left =
    ap (λ (xs : List ℕ). record { side = v.side; limit = v.limit; whole = new; position = s.position; «open» = xs; fault = s.fault }) left
    ∙ h.reads
    ∙ ap (λ (xs : List ℕ). read_all (at_position v.side v.limit v.position v.whole xs)) joined
    ∙ ap (λ (o : Option StreamFault). read_all (record {
      side = v.side;
      limit = v.limit;
      whole = v.whole;
      position = v.position;
      «open» =
          v.open ++ piece;
      fault = o;
    })) (sym none)
    ∙ sym (fed_none v piece none)

fed_after_fault : (v : View) (p : List ℕ) → is_some v.fault ≡ true → fed v p ≡ v
unfolding fed
fed_after_fault v p e = ap (λ (b : Bool). if b then v else read_all (with_bytes v p)) e

-- a scan of the first part of a piece stopped at a fault: the rest says nothing any more
pub stopped_within : (v : View) (first rest piece bytes kept : List ℕ) (new : List Placed) (s : Scan) → v.fault ≡ None
    → first ++ rest ≡ piece → is_some s.fault ≡ true → bytes ≡ v.open ++ first → Scanned v.side v.limit v.position bytes v.whole new s
    → kept ≡ drop s.begins bytes → kept_by v.side v.limit new kept s ≡ fed v piece
stopped_within v first rest piece bytes kept new s none cut stops joined h left =
    let before = fed_left v first bytes kept new s none joined h left in
    sym (fed_after_fault (kept_by v.side v.limit new kept s) rest stops)
    ∙ ap (λ (w : View). fed w rest) before ∙ fed-append v first rest ∙ ap (fed v) cut

pub no_fault : (o : Option StreamFault) → is_some o ≡ false → o ≡ None
no_fault None e = refl
no_fault (Some fault) e = absurd (cc)

-- two scans, the second of what the first one left and the rest of the piece
pub fed_twice : (v : View) (first rest piece bytes after kept : List ℕ) (middle new : List Placed) (s t : Scan) → v.fault ≡ None
    → first ++ rest ≡ piece → s.fault ≡ None → bytes ≡ v.open ++ first → Scanned v.side v.limit v.position bytes v.whole middle s
    → after ≡ drop s.begins bytes ++ rest → Scanned v.side v.limit s.position after middle new t → kept ≡ drop t.begins after
    → kept_by v.side v.limit new kept t ≡ fed v piece
fed_twice v first rest piece bytes after kept middle new s t none cut goes joined h follows i left =
    let between : View = kept_by v.side v.limit middle (drop s.begins bytes) s in
    fed_left between rest after kept new t goes follows i left
    ∙ ap (λ (w : View). fed w rest) (fed_left v first bytes (drop s.begins bytes) middle s none joined h refl)
    ∙ fed-append v first rest ∙ ap (fed v) cut

-- what a piece leaves is within the limit, where what it began with was
pub fed_within : (side : Side) (limit : ℕ) (position : Position) (old new : List Placed) («open» kept piece : List ℕ) (s : Scan)
    → kept_by side limit new kept s ≡ fed (at_position side limit position old «open») piece → IsWithin limit old position → IsWithin limit new s.position
fed_within side limit position old new «open» kept piece s e h =
    let v : View = at_position side limit position old «open» in
    subst (λ (w : View). IsWithin limit w.whole w.position) (sym (e ∙ fed_none v piece refl)) (on_within (length («open» ++ piece)) (with_bytes v piece) h)
