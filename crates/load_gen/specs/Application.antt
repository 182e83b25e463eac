-- The text of the load's application: accounts, and the procedures that the load calls, with some more that read.
use Rattle.std.specs.List.{concat}
use Rattle.std.specs.Prelude.{List, [], codes, ◌∷◌, ℕ}

unfoldable pub app_text : List ℕ
app_text = concat (
    codes "table acct (id int, owner text, bal int) key (id) index (owner);\n" ∷
    codes "proc add(i int, o text, b int) { insert acct (i, o, b); }\n" ∷
    codes "proc remove(i int) { delete acct key (i); }\n" ∷
    codes "proc pay(f int, t int, n int) {\n" ∷
    codes "  get a from acct key (f) {\n" ∷
    codes "    get b from acct key (t) {\n" ∷
    codes "      if a.bal < n { fail \"funds\"; }\n" ∷
    codes "      update acct key (f) set bal = a.bal - n;\n" ∷
    codes "      update acct key (t) set bal = b.bal + n;\n" ∷
    codes "    } else { fail \"no payee\"; }\n" ∷
    codes "  } else { fail \"no payer\"; }\n" ∷
    codes "}\n" ∷
    codes "proc sweep(o text, t int) {\n" ∷
    codes "  let sum = 0;\n" ∷
    codes "  for r in acct span on owner from o to o { sum = sum + r.bal; }\n" ∷
    codes "  update acct key (t) set bal = sum;\n" ∷
    codes "}\n" ∷
    codes "proc both(a int, b int, n int) {\n" ∷
    codes "  get v from acct key (a) {\n" ∷
    codes "    get w from acct key (b) {\n" ∷
    codes "      if v.bal + w.bal >= n { update acct key (a) set bal = v.bal - n; }\n" ∷
    codes "      else { fail \"low\"; }\n" ∷
    codes "    } else { fail \"no second\"; }\n" ∷
    codes "  } else { fail \"no first\"; }\n" ∷
    codes "}\n" ∷
    codes "proc trio(a int, b int, c int) {\n" ∷
    codes "  get u from acct key (a) { } else { }\n" ∷
    codes "  get v from acct key (b) { } else { }\n" ∷
    codes "  get w from acct key (c) { } else { }\n" ∷
    codes "}\n" ∷
    codes "proc spin(a int, b int, c int, d int) {\n" ∷
    codes "  for p in acct span on id from 1 to a {\n" ∷
    codes "    for q in acct span on id from 1 to b {\n" ∷
    codes "      for r in acct span on id from 1 to c {\n" ∷
    codes "        for s in acct span on id from 1 to d { }\n" ∷
    codes "      }\n" ∷
    codes "    }\n" ∷
    codes "  }\n" ∷
    codes "}\n" ∷
    codes "proc spinmore(a int, b int, c int, d int) {\n" ∷
    codes "  for p in acct span on id from 1 to a {\n" ∷
    codes "    for q in acct span on id from 1 to b {\n" ∷
    codes "      for r in acct span on id from 1 to c {\n" ∷
    codes "        for s in acct span on id from 1 to d { }\n" ∷
    codes "      }\n" ∷
    codes "    }\n" ∷
    codes "  }\n" ∷
    codes "  let last = 0;\n" ∷
    codes "}\n" ∷
    [])
