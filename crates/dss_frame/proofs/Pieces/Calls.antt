-- Whatever the calls, what was taken and what is left are what all bytes are read as.
use Rattle.std.proofs.Common.{◌≡◌, ℕ, List, [], ◌∷◌, ◌++◌, take, drop, refl, sym, ap, ◌∙◌, append_assoc}
use Rattle.std.proofs.lemmas.List.{append-nil, append_cancel_left, take-append-drop}
use Rattle.dss_frame.specs.declared.dss.Side.{Side}
use Rattle.dss_frame.specs.declared.dss.Placed.{Placed}
use Rattle.dss_frame.specs.Reading.{View, start, fed, behind, read_on}
use Rattle.dss_frame.specs.Calls.{Call, Feed, Take, after_call, after_calls, taken_by, fed_by}
use Rattle.dss_frame.proofs.Pieces.Pieces.{fed-append, fed-behind}

behind_both : (xs ys : List Placed) (v : View) → behind (xs ++ ys) v ≡ behind xs (behind ys v)
behind_both xs ys v = ap (λ (ps : List Placed). record v { whole = ps }) (append_assoc xs ys v.whole)

-- the DSSs that a take leaves, behind the one that it hands out
taken_in_front : (v : View) → behind (take 1 v.whole) (record v { whole = drop 1 v.whole }) ≡ v
taken_in_front v = ap (λ (ps : List Placed). record v { whole = ps }) (take-append-drop 1 v.whole)

calls_and_more : (calls : List Call) (v : View) (more : List ℕ) → fed (behind (taken_by v calls) (after_calls v calls)) more ≡ fed v (fed_by calls ++ more)
calls_and_more [] v more = refl
calls_and_more (Feed piece ∷ calls) v more =
    calls_and_more calls (fed v piece) more ∙ fed-append v piece (fed_by calls ++ more) ∙ ap (fed v) (sym (append_assoc piece (fed_by calls) more))
calls_and_more (Take ∷ calls) v more =
    let left : View = record v { whole = drop 1 v.whole } in
    let first : List Placed = take 1 v.whole in
    let after : View = behind (taken_by left calls) (after_calls left calls) in
    ap (λ (w : View). fed w more) (behind_both first (taken_by left calls) (after_calls left calls))
    ∙ fed-behind first after more
    ∙ ap (behind first) (calls_and_more calls left more)
    ∙ sym (fed-behind first left (fed_by calls ++ more))
    ∙ ap (λ (w : View). fed w (fed_by calls ++ more)) (taken_in_front v)

-- ---- a reader that has read all it can

abbrev pub IsSettled : View → Type 0
IsSettled v = fed v [] ≡ v

-- what is settled behind other DSSs is settled without them
settled_alone : (front : List Placed) (v : View) → IsSettled (behind front v) → IsSettled v
settled_alone front v e =
    let both : behind front (fed v []) ≡ behind front v = sym (fed-behind front v []) ∙ e in
    let whole = append_cancel_left front (fed v []).whole v.whole (ap (λ (w : View). w.whole) both) in
    ap (λ (ps : List Placed). record (fed v []) { whole = ps }) whole ∙ ap (λ (w : View). record w { whole = v.whole }) both

after_settled : (call : Call) (v : View) → IsSettled v → IsSettled (after_call v call)
after_settled (Feed piece) v e = fed-append v piece [] ∙ ap (fed v) (append-nil piece)
after_settled Take v e =
    let left : View = record v { whole = drop 1 v.whole } in
    settled_alone (take 1 v.whole) left (ap (λ (w : View). fed w []) (taken_in_front v) ∙ e ∙ sym (taken_in_front v))

all_settled : (calls : List Call) (v : View) → IsSettled v → IsSettled (after_calls v calls)
all_settled [] v e = e
all_settled (call ∷ calls) v e = all_settled calls (after_call v call) (after_settled call v e)

start_settled : (side : Side) (limit : ℕ) → IsSettled (start side limit)
unfolding fed read_on
start_settled side limit = refl

pub calls_read : (side : Side) (limit : ℕ) (calls : List Call)
    → behind (taken_by (start side limit) calls) (after_calls (start side limit) calls) ≡ fed (start side limit) (fed_by calls)
calls_read side limit calls =
    let v : View = start side limit in
    let after = all_settled calls v (start_settled side limit) in
    sym (ap (behind (taken_by v calls)) after) ∙ sym (fed-behind (taken_by v calls) (after_calls v calls) [])
    ∙ calls_and_more calls v [] ∙ ap (fed v) (append-nil (fed_by calls))
