use native.Mathlib.Omega.{arith}
use mathlib.Core.Path.{ap}
use Rattle.fields.specs.Code.{privilege_of, exclusion_code}
use Rattle.forms.specs.Form.{ascii}
use Rattle.text_write.proofs.Texts.{role-member, privilege-member}
use Rattle.text_write.proofs.exclusion.put_member.Goals as goal

pub returns-in-Roles : goal.returns-in-Roles
returns-in-Roles c =
    let a = c.args in
    role-member a.names.now.list.now (exclusion_code a.kind) (privilege_of a.p) c.put_role.result (ap exclusion_code c.in-Roles.is) c.put_role.ensures

pub returns-in-Privileges : goal.returns-in-Privileges
unfolding ascii
returns-in-Privileges c =
    let a = c.args in
    let two = ap exclusion_code c.in-Privileges.is in
    privilege-member a.names.now.list.now (exclusion_code a.kind) (privilege_of a.p) c.put_pair.result (λ e. omega arith) c.put_pair.ensures
