-- Journals whose steps lead to a pool.
use Rattle.std.proofs.Common.{◌≡◌, true, false, nat_lt, cond, List, [], ◌∷◌, ◌++◌, length, refl, ap, sym}
use Rattle.transport_pool.specs.State.{PoolState}
use Rattle.transport_pool.specs.Steps.{Stepped, pool_step}
use Rattle.transport_pool.specs.Journal.{JournalState, forgotten, with_room, with_entry, most_entries, Leads}
use Rattle.transport_pool.specs.declared.entry.PoolEntry.{PoolEntry}
use Rattle.transport_pool.specs.declared.entry.PoolCall.{PoolCall}
use Rattle.transport_pool.specs.declared.entry.PoolAnswer.{PoolAnswer}

leads_more : (start : PoolState) (entries : List PoolEntry) (now : PoolState) (entry : PoolEntry) → Leads start entries now
    → (pool_step now entry.call).answer ≡ entry.answer → Leads start (entries ++ entry ∷ []) (pool_step now entry.call).state
leads_more start [] now entry e a = rw e (a, refl)
leads_more start (first ∷ others) now entry h a = (h.0, leads_more (pool_step start first.call).state others now entry h.1 a)

leads_forgotten : (start : PoolState) (entries : List PoolEntry) (now : PoolState) → Leads start entries now
    → Leads (forgotten start entries).start (forgotten start entries).entries now
leads_forgotten start [] now h = h
leads_forgotten start (first ∷ others) now h = h.1

leads_room : (journal : JournalState) (now : PoolState) → Leads journal.start journal.entries now
    → Leads (with_room journal).start (with_room journal).entries now
leads_room journal now h = elim (nat_lt (length journal.entries) most_entries) as (λ b. let j =
    cond b journal (forgotten journal.start journal.entries) in Leads j.start j.entries now) [
      | true ↦ h
      | false ↦ leads_forgotten journal.start journal.entries now h
    ]

-- a step that is kept leads on
pub leads_on : (journal : JournalState) (now : PoolState) (entry : PoolEntry) → Leads journal.start journal.entries now
    → (pool_step now entry.call).answer ≡ entry.answer → Leads (with_entry journal entry).start (with_entry journal entry).entries (pool_step now
    entry.call).state
leads_on journal now entry h a = leads_more (with_room journal).start (with_room journal).entries now entry (leads_room journal now h) a

-- what a step answers and leaves leads on
pub leads_decided : (journal after : JournalState) (pool next : PoolState) (call : PoolCall) (answer : PoolAnswer) → record {
  state = next;
  answer =
      answer;
} ≡ pool_step pool call → after ≡ with_entry journal (record { call = call; answer = answer })
    → Leads journal.start journal.entries pool → Leads after.start after.entries next
leads_decided journal after pool next call answer e f h =
    let state : next ≡ (pool_step pool call).state = ap (λ (s : Stepped). s.state) e in
    let told : (pool_step pool call).answer ≡ answer = sym (ap (λ (s : Stepped). s.answer) e) in
    rw (f, state) (leads_on journal pool (record { call = call; answer = answer }) h told)
